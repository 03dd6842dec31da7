-- What a walk over a listing keeps.
use Rattle.std.proofs.Common.{◌≡◌, ◌≤◌, ◌+◌, ◌-◌, Bool, true, false, List, [], ◌∷◌, ◌++◌, length, refl, ◌∙◌, ap, arith, length-append}
use Rattle.worker_protocol.specs.Frames.{Item, Job}
use Rattle.backup_plan.specs.declared.values.PlanSettings.{PlanSettings}
use Rattle.backup_plan.specs.declared.values.Choice.{Choice}
use Rattle.backup_plan.specs.declared.values.Choice.TheVariants.{Skip, Empty, Alone, Bundle, Last}
use Rattle.backup_plan.specs.declared.values.What.{What}
use Rattle.backup_plan.specs.declared.values.What.TheVariants.{Leave, Nothing, Single, Small, Control}
use Rattle.backup_plan.specs.Listed.{Taken}
use Rattle.backup_plan.specs.Layout.{Layout, item_for, read_job, takes, bundled_by, bundled, bundles, bundle_job, laid, IsWithin}

pub more : {X : Type 0} (xs : List X) (x : X) → length (xs ++ x ∷ []) ≡ length xs + 1
more xs x = length-append xs (x ∷ [])

pub bundle_choices : (b : Bool) (l : Layout) (f : Taken) → (bundled_by b l f).choices ≡ l.choices
bundle_choices true l f = refl
bundle_choices false l f = refl

-- one choice for each file
pub one_choice : (s : PlanSettings) (l : Layout) (f : Taken) (w : What) → length (laid s l f w).choices ≡ length l.choices + 1
one_choice s l f Leave = more l.choices Skip
one_choice s l f Nothing = more l.choices Empty
one_choice s l f Single = more l.choices (Alone (length l.singles))
one_choice s l f Small =
    let n = bundled s l f in
    more n.choices (Bundle (length n.full + 1) (length n.current - 1)) ∙ ap (λ (cs : List Choice). length cs + 1) (bundle_choices (takes s l f.size) l f)
one_choice s l f Control = more l.choices Last

job_some : (is : List Item) (i : Item) → length (bundle_job (is ++ i ∷ [])) ≡ 1
job_some [] i = refl
job_some (x ∷ is) i = refl

-- the bundles are at most one more, and the files in the last one
record Grows (l n : Layout) : Type 0 where
  singles : n.singles ≡ l.singles
  full : length (bundles n) ≤ length (bundles l) + 1
  current : length n.current ≤ length l.current + 1

bundle_grows : (b : Bool) (l : Layout) (f : Taken) → Grows l (bundled_by b l f)
bundle_grows true l f =
    let a = length-append l.full (bundle_job (l.current ++ item_for f ∷ [])) in
    let b = length-append l.full (bundle_job l.current) in
    let c = job_some l.current (item_for f) in
    let d = more l.current (item_for f) in
    record { singles = refl; full = omega (arith, a, b, c); current = omega (arith, d) }
bundle_grows false l f =
    let a = more (bundles l) (read_job (item_for f ∷ [])) in
    record { singles = refl; full = omega (arith, a); current = omega arith }

pub within_laid : (s : PlanSettings) (l : Layout) (f : Taken) (w : What) → IsWithin l → IsWithin (laid s l f w)
within_laid s l f Leave h =
    let n = one_choice s l f Leave in
    let a = h.singles in
    let b = h.bundles in
    let c = h.current in
    record { singles = omega (arith, n, a); bundles = omega (arith, n, b); current = omega (arith, n, c) }
within_laid s l f Nothing h =
    let n = one_choice s l f Nothing in
    let a = h.singles in
    let b = h.bundles in
    let c = h.current in
    record { singles = omega (arith, n, a); bundles = omega (arith, n, b); current = omega (arith, n, c) }
within_laid s l f Single h =
    let n = one_choice s l f Single in
    let m = more l.singles (read_job (item_for f ∷ [])) in
    let a = h.singles in
    let b = h.bundles in
    let c = h.current in
    record { singles = omega (arith, n, m, a); bundles = omega (arith, n, b); current = omega (arith, n, c) }
within_laid s l f Small h =
    let n = one_choice s l f Small in
    let g = bundle_grows (takes s l f.size) l f in
    let same = ap (λ (js : List Job). length js) g.singles in
    let a = h.singles in
    let b = h.bundles in
    let c = h.current in
    let d = g.full in
    let e = g.current in
    record { singles = omega (arith, n, same, a); bundles = omega (arith, n, b, d); current = omega (arith, n, c, e) }
within_laid s l f Control h =
    let n = one_choice s l f Control in
    let a = h.singles in
    let b = h.bundles in
    let c = h.current in
    record { singles = omega (arith, n, a); bundles = omega (arith, n, b); current = omega (arith, n, c) }
