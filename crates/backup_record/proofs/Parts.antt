-- The jobs of a plan: those of single files, of bundles, and of the control file.
use Rattle.std.proofs.Common.{◌≡◌, ℕ, zero, suc, ◌+◌, ◌-◌, ◌<◌, List, [], ◌∷◌, ◌++◌, map, take, drop, length, refl, sym, ap, ◌∙◌, arith, append_assoc, length-append, length-drop}
use Rattle.std.specs.Prelude.{codes, decimal, min}
use Rattle.std.proofs.lemmas.List.{take-map, take_all, length-map}
use Rattle.worker_protocol.specs.declared.frames.frames.Job as rust
use Rattle.worker_protocol.specs.Frames.{Job}
use Rattle.worker_protocol.specs.Views.{job_of}
use Rattle.base_devices.specs.Content.{Name}
use Rattle.base_model.specs.Text.{Text, ◌⫽◌}
use Rattle.backup_plan.specs.declared.values.BackupPlan.{BackupPlan}
use Rattle.backup_plan.specs.Layout.{Layout, bundles, jobs_of}
use Rattle.backup_record.specs.Naming.{single_in, bundles_in, names_in, IsPlanned}

pub next_bundle : (folder : Text) (n : ℕ) (js : List rust.Job) (i : ℕ) → i < length js → bundles_in folder n (map job_of (drop i js)) ≡ (folder ⫽ codes "bundle" ⫽ decimal n) ∷ bundles_in folder (n + 1) (map job_of (drop (i + 1) js))
next_bundle folder n [] i less = absurd (omega (arith, less))
next_bundle folder n (j ∷ js) zero less = refl
next_bundle folder n (j ∷ js) (suc i) less =
    let more : i + 1 + 1 ≡ suc (i + 1) = omega arith in
    let same : suc i + 1 ≡ suc (i + 1) = omega arith in
    next_bundle folder n js i (omega (arith, less)) ∙ ap (λ (k : ℕ). (folder ⫽ codes "bundle" ⫽ decimal n) ∷ bundles_in folder (n + 1) (map job_of (drop k (j ∷ js)))) (sym same)

take_prefix : {X : Type 0} (xs ys : List X) (n : ℕ) → n ≡ length xs → take n (xs ++ ys) ≡ xs
take_prefix [] ys zero e = refl
take_prefix [] ys (suc n) e = absurd (omega (arith, e))
take_prefix (x ∷ xs) ys zero e = absurd (omega (arith, e))
take_prefix (x ∷ xs) ys (suc n) e = ap (λ (l : List _). x ∷ l) (take_prefix xs ys n (omega (arith, e)))

drop_prefix : {X : Type 0} (xs ys : List X) (n : ℕ) → n ≡ length xs → drop n (xs ++ ys) ≡ ys
drop_prefix [] ys zero e = refl
drop_prefix [] ys (suc n) e = absurd (omega (arith, e))
drop_prefix (x ∷ xs) ys zero e = absurd (omega (arith, e))
drop_prefix (x ∷ xs) ys (suc n) e = drop_prefix xs ys n (omega (arith, e))

drop_map : {X Y : Type 0} (f : X → Y) (n : ℕ) (xs : List X) → drop n (map f xs) ≡ map f (drop n xs)
drop_map f zero xs = refl
drop_map f (suc n) [] = refl
drop_map f (suc n) (x ∷ xs) = drop_map f n xs

module _ (jobs : List rust.Job) (l : Layout) (n : ℕ) (are : map job_of jobs ≡ jobs_of l) (singles : n ≡ length l.singles) (one : length l.last ≡ 1) where
  split : map job_of jobs ≡ l.singles ++ (bundles l ++ l.last)
  split = are ∙ append_assoc l.singles (bundles l) l.last

  pub first_part : map job_of (take n jobs) ≡ l.singles
  first_part = sym (take-map job_of n jobs) ∙ ap (take n) split ∙ take_prefix l.singles (bundles l ++ l.last) n singles

  rest : map job_of (drop n jobs) ≡ bundles l ++ l.last
  rest = sym (drop_map job_of n jobs) ∙ ap (drop n) split ∙ drop_prefix l.singles (bundles l ++ l.last) n singles

  pub few : n + 1 + length (bundles l) ≡ length jobs
  few =
      let a = sym (length-map jobs job_of) ∙ ap (λ (js : List Job). length js) split in
      let b = length-append l.singles (bundles l ++ l.last) in
      let c = length-append (bundles l) l.last in
      omega (arith, a, b, c, singles, one)

  module _ (m : ℕ) (count : m ≡ length (drop n jobs) - 1) where
    bundle_count : m ≡ length (bundles l)
    bundle_count =
        let a = sym (length-map (drop n jobs) job_of) ∙ ap (λ (js : List Job). length js) rest in
        let b = length-append (bundles l) l.last in
        omega (arith, a, b, one, count)

    pub bundle_part : map job_of (take m (drop n jobs)) ≡ bundles l
    bundle_part = sym (take-map job_of m (drop n jobs)) ∙ ap (take m) rest ∙ take_prefix (bundles l) l.last m bundle_count

    pub last_part : map job_of (drop m (drop n jobs)) ≡ l.last
    last_part = sym (drop_map job_of m (drop n jobs)) ∙ ap (drop m) rest ∙ drop_prefix (bundles l) l.last m bundle_count

-- what is left of a list from a place on
from_on : {X : Type 0} (n : ℕ) (xs : List X) → take (length xs - n) (drop n xs) ≡ drop n xs
from_on n xs = let count = length-drop n xs in take_all (length xs - n) (drop n xs) (omega (arith, count))

module _ (folder : Text) (plan : BackupPlan) (l : Layout) (p : IsPlanned plan l) (jobs : List rust.Job) (jobs_are : jobs ≡ plan.jobs.items) (s b : ℕ) (s_is : s ≡ min (length jobs) plan.singles) (b_is : b ≡ length (take (length jobs - s) (drop s jobs)) - 1) where
  abbrev following : List rust.Job
  following = take (length jobs - s) (drop s jobs)

  are : map job_of jobs ≡ jobs_of l
  are = ap (map job_of) jobs_are ∙ p.jobs

  singles : s ≡ length l.singles
  singles =
      let a = sym (length-map jobs job_of) ∙ ap (λ (js : List Job). length js) are in
      let b = length-append (l.singles ++ bundles l) l.last in
      let c = length-append l.singles (bundles l) in
      let d = p.singles in
      omega (arith, a, b, c, d, s_is)

  count : b ≡ length (drop s jobs) - 1
  count = b_is ∙ ap (λ (js : List rust.Job). length js - 1) (from_on s jobs)

  -- the names of the three parts are those of the layout
  pub named : (names : List Name) → names ≡ map (single_in folder) (map job_of (take s jobs)) ++ (bundles_in folder 1 (map job_of (take b following)) ++ map (single_in folder) (map job_of (take (length following - b) (drop b following)))) → names ≡ names_in folder l
  named names is =
      let first = first_part jobs l s are singles p.last in
      let middle = ap (λ (js : List rust.Job). map job_of (take b js)) (from_on s jobs) ∙ bundle_part jobs l s are singles p.last b count in
      let last = ap (map job_of) (from_on b following) ∙ ap (λ (js : List rust.Job). map job_of (drop b js)) (from_on s jobs) ∙ last_part jobs l s are singles p.last b count in
      is
      ∙ ap (λ (js : List Job). map (single_in folder) js ++ (bundles_in folder 1 (map job_of (take b following)) ++ map (single_in folder) (map job_of (take (length following - b) (drop b following))))) first
      ∙ ap (λ (js : List Job). map (single_in folder) l.singles ++ (bundles_in folder 1 js ++ map (single_in folder) (map job_of (take (length following - b) (drop b following))))) middle
      ∙ ap (λ (js : List Job). map (single_in folder) l.singles ++ (bundles_in folder 1 (bundles l) ++ map (single_in folder) js)) last
