-- The names of the jobs are where the jobs are.
use Rattle.std.proofs.Common.{◌≡◌, ⊎_elim, ◌+◌, ℕ, zero, suc, List, [], ◌∷◌, ◌++◌, length, map, Option, Some, None, refl, sym, ◌∙◌, ap, arith, slice_get, length-append}
use Rattle.std.proofs.lemmas.Option.{slice_get-map}
use Rattle.std.proofs.lemmas.List.{length-map}
use Rattle.std.specs.Prelude.{option_map}
use Rattle.base_devices.specs.Content.{Name}
use Rattle.worker_protocol.specs.Frames.{Item, Job}
use Rattle.base_model.specs.declared.labels.Label.{Label}
use Rattle.base_model.specs.Text.{Text, In}
use Rattle.base_model.specs.Names.{file_name, bundle_name}
use Rattle.backup_plan.specs.Layout.{Layout, read_job, bundles, jobs_of}
use Rattle.backup_plan.proofs.Places.{at_prefix}
use Rattle.backup_record.specs.Entries.{BackupRun, last_job_number}
use Rattle.backup_record.specs.Naming.{single_name, bundle_names, names_for, IsNaming}

pub at_back : {X : Type 0} (xs ys : List X) (n j : ℕ) → n ≡ length xs + j → slice_get (xs ++ ys) n ≡ slice_get ys j
at_back [] ys n j e = ap (slice_get ys) (e ∙ (let z : 0 + j ≡ j = omega arith in z))
at_back (x ∷ xs) ys zero j e = absurd (omega (arith, e))
at_back (x ∷ xs) ys (suc n) j e = at_back xs ys n j (omega (arith, e))

count : (stanza : Text) (label : Label) (n : ℕ) (js : List Job) → length (bundle_names stanza label n js) ≡ length js
count stanza label n [] = refl
count stanza label n (j ∷ js) = ap suc (count stanza label (n + 1) js)

bundle_at : (stanza : Text) (label : Label) (n : ℕ) (js : List Job) (j : ℕ) (job : Job) → slice_get js j ≡ Some job → slice_get (bundle_names stanza label n js) j ≡ Some (bundle_name stanza label (n + j))
bundle_at stanza label n [] j job is = absurd (let e : ◌≡◌ {A = Option Job} None (Some job) = is in cc)
bundle_at stanza label n (k ∷ js) zero job is = ap (λ (i : ℕ). Some (bundle_name stanza label i)) (omega arith)
bundle_at stanza label n (k ∷ js) (suc j) job is =
    let more : (n + 1) + j ≡ n + suc j = omega arith in
    bundle_at stanza label (n + 1) js j job is ∙ ap (λ (i : ℕ). Some (bundle_name stanza label i)) more

pub one_of : {X : Type 0} (x : X) (xs : List X) → In x xs → length xs ≡ 1 → xs ≡ x ∷ []
one_of x [] h one = absurd h
one_of x (y ∷ []) h one = ⊎_elim (λ (e : x ≡ y). ap (λ (z : _). z ∷ []) (sym e)) (λ (k : ⊥). absurd k) h
one_of x (y ∷ z ∷ xs) h one = absurd (omega (arith, one))

module _ (stanza : Text) (label : Label) (w : BackupRun) (l : Layout) (singles : w.singles ≡ length l.singles) (ends : length w.ends ≡ length (jobs_of l)) (one : length l.last ≡ 1) where
  abbrev prefix : List Name
  prefix = map (single_name stanza label) l.singles

  abbrev back : List Name
  back = map (single_name stanza label) l.last

  abbrev middle : List Name
  middle = bundle_names stanza label 1 (bundles l)

  prefix_count : length prefix ≡ length l.singles
  prefix_count = length-map l.singles (single_name stanza label)

  last_is : (x : Item) → In (read_job (x ∷ [])) l.last → slice_get (names_for stanza label l) (last_job_number w) ≡ Some (file_name stanza label x.path)
  last_is x at =
      let a = prefix_count in
      let b = count stanza label 1 (bundles l) in
      let c = length-append (l.singles ++ bundles l) l.last in
      let d = length-append l.singles (bundles l) in
      let place : last_job_number w ≡ length prefix + (length middle + 0) = omega (arith, a, b, c, d, ends, one) in
      at_back prefix (middle ++ back) (last_job_number w) (length middle + 0) place
      ∙ at_back middle back (length middle + 0) 0 refl
      ∙ ap (λ (js : List Job). slice_get (map (single_name stanza label) js) 0) (one_of (read_job (x ∷ [])) l.last at one)

  pub naming : IsNaming stanza label (names_for stanza label l) w l
  naming = record {
    single = λ j x is. at_prefix prefix (middle ++ back) j (file_name stanza label x.path) (slice_get-map (single_name stanza label) l.singles j ∙ ap (option_map (single_name stanza label)) is);
    bundle = λ j job is. (
        let a = prefix_count in
        let place : w.singles + j ≡ length prefix + j = omega (arith, a, singles) in
        let more : 1 + j ≡ j + 1 = omega arith in
        at_back prefix (middle ++ back) (w.singles + j) j place
        ∙ at_prefix middle back j (bundle_name stanza label (1 + j)) (bundle_at stanza label 1 (bundles l) j job is)
        ∙ ap (λ (n : ℕ). Some (bundle_name stanza label n)) more
        );
    last = last_is;
  }

-- as many names as jobs
pub names_count : (stanza : Text) (label : Label) (l : Layout) → length (names_for stanza label l) ≡ length (jobs_of l)
names_count stanza label l =
    let a = length-map l.singles (single_name stanza label) in
    let b = count stanza label 1 (bundles l) in
    let c = length-map l.last (single_name stanza label) in
    let d = length-append (map (single_name stanza label) l.singles) (bundle_names stanza label 1 (bundles l) ++ map (single_name stanza label) l.last) in
    let e = length-append (bundle_names stanza label 1 (bundles l)) (map (single_name stanza label) l.last) in
    let f = length-append (l.singles ++ bundles l) l.last in
    let g = length-append l.singles (bundles l) in
    omega (arith, a, b, c, d, e, f, g)
