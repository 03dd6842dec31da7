-- Backups that a rule expires come before all others that it counts.
use Rattle.std.proofs.Common.{◌≡◌, ℕ, ◌+◌, ◌-◌, ◌<◌, ◌≤◌, Bool, true, false, List, [], ◌∷◌, ◌++◌, map, length, take, get_or, Option, Some, refl, ap, ◌∙◌, sym, arith, append-nil}
use Rattle.std.specs.Prelude.{filter, ◌||◌, if◌then◌else◌}
use Rattle.std.proofs.lemmas.List.{take-map, map_more, length-take, length-map, length-append}
use Rattle.std.proofs.lemmas.Simd.{map-map}
use Rattle.std.proofs.lemmas.List.Elements.{filter-append}
use Rattle.base_model.specs.declared.labels.BackupKind.TheVariants.{Diff}
use Rattle.base_model.specs.declared.labels.Label.{Label}
use Rattle.base_model.specs.declared.labels.Entry as rust_entry
use Rattle.base_model.specs.Values.{Entry, entry_of}
use Rattle.expire_rules.specs.declared.rules.FullRule.{FullRule}
use Rattle.expire_rules.specs.declared.rules.FullRule.TheVariants.{Unset, Count, Days}
use Rattle.expire_rules.specs.declared.counting_rules.Mark.{Mark}
use Rattle.expire_rules.specs.Labels.{labels_of, is_kind}
use Rattle.expire_rules.specs.Condemned.{is_full, is_diff, is_counted, is_old, has_some, before_last, full_gone, diffs_gone, all_but_last}
use Rattle.expire_rules.specs.Known.{mark_of, diffs_marked}
use Rattle.expire_rules.proofs.Lists.{map_filter}

-- ---- those before the last that passes

or_more : (a b c : Bool) → (a || (b || c)) ≡ ((a || b) || c)
or_more true b c = refl
or_more false b c = refl

has_more : {X : Type 0} (p : X → Bool) (xs : List X) (x : X) → has_some p (xs ++ x ∷ []) ≡ (has_some p xs || (p x || false))
has_more p [] x = refl
has_more p (y ∷ ys) x = ap (λ (b : Bool). p y || b) (has_more p ys x) ∙ or_more (p y) (has_some p ys) (p x || false)

-- where one more comes after
pub before_more : {X : Type 0} (p : X → Bool) (xs : List X) (x : X) → before_last p (xs ++ x ∷ []) ≡ (if p x then xs else before_last p xs)
before_more {X} p [] x = by (p x)
  where
    by : (b : Bool) → ◌≡◌ {A = List X} [] (if b then [] else [])
    by true = refl
    by false = refl
before_more {X} p (y ∷ ys) x = rw (has_more p ys x, before_more p ys x) (by (has_some p ys) (p x))
  where
    by : (a b : Bool) → ◌≡◌ {A = List X} (if a || (b || false) then y ∷ (if b then ys else before_last p ys) else []) (if b then y ∷ ys else (if a then y ∷ before_last p ys else []))
    by true true = refl
    by true false = refl
    by false true = refl
    by false false = refl

-- they are the first
pub before_first : {X : Type 0} (p : X → Bool) (xs : List X) → before_last p xs ≡ take (length (before_last p xs)) xs
before_first p [] = refl
before_first {X} p (y ∷ ys) = by (has_some p ys) (before_first p ys)
  where
    by : (a : Bool) → before_last p ys ≡ take (length (before_last p ys)) ys → ◌≡◌ {A = List X} (if a then y ∷ before_last p ys else []) (take (length (if a then y ∷ before_last p ys else [])) (y ∷ ys))
    by true more = ap (λ (l : List X). y ∷ l) more
    by false more = refl

-- ---- full backups

taken : {X : Type 0} (n : ℕ) (xs : List X) → n ≤ length xs → length (take n xs) ≡ n
taken n xs low = grind (arith, length-take)

-- what the rule expires is first
pub gone_first : (rule : FullRule) (moment : ℕ) (fulls : List Entry) → full_gone rule moment fulls ≡ take (length (full_gone rule moment fulls)) fulls
gone_first Unset moment fulls = refl
gone_first (Count n) moment fulls = ap (λ (k : ℕ). take k fulls) (sym (taken (length fulls - n) fulls (omega arith)))
gone_first (Days days) moment fulls = before_first (is_old moment days) fulls

-- the first n of all labels, where n backups expire
pub full_taken : (rule : FullRule) (moment : ℕ) (fulls : List Entry) (all left : List Label) (n : ℕ) → all ≡ labels_of fulls → n ≡ length (full_gone rule moment fulls) → left ≡ take n all → left ≡ labels_of (full_gone rule moment fulls)
full_taken rule moment fulls all left n all_is n_is left_is =
    left_is ∙ ap (λ (l : List Label). take n l) all_is ∙ take-map (λ (e : Entry). e.label) n fulls ∙ ap (λ (k : ℕ). labels_of (take k fulls)) n_is ∙ ap labels_of (sym (gone_first rule moment fulls))

-- ---- one more is counted

-- the full backups, and those of them before the last old one
module _ (moment days : ℕ) (es : List rust_entry.Entry) (i : ℕ) (e : rust_entry.Entry) (low : i < length es) (is : e ≡ get_or es i e) where
  abbrev pub so_far : List Entry
  so_far = filter is_full (map entry_of (take i es))

  one : filter is_full (map entry_of (take (i + 1) es)) ≡ so_far ++ filter is_full (entry_of e ∷ [])
  one = ap (filter is_full) (map_more entry_of es i e low) ∙ filter-append is_full (map entry_of (take i es)) (entry_of (get_or es i e) ∷ []) ∙ ap (λ (x : rust_entry.Entry). so_far ++ filter is_full (entry_of x ∷ [])) (sym is)

  pub other_count : is_full (entry_of e) ≡ false → filter is_full (map entry_of (take (i + 1) es)) ≡ so_far
  other_count off = one ∙ ap (λ (b : Bool). so_far ++ (if b then entry_of e ∷ [] else [])) off ∙ append-nil so_far

  next : is_full (entry_of e) ≡ true → filter is_full (map entry_of (take (i + 1) es)) ≡ so_far ++ entry_of e ∷ []
  next on = one ∙ ap (λ (b : Bool). so_far ++ (if b then entry_of e ∷ [] else [])) on

  pub full_count : is_full (entry_of e) ≡ true → length (filter is_full (map entry_of (take (i + 1) es))) ≡ length so_far + 1
  full_count on = ap length (next on) ∙ length-append so_far (entry_of e ∷ [])

  pub old_count : is_full (entry_of e) ≡ true → is_old moment days (entry_of e) ≡ true → before_last (is_old moment days) (filter is_full (map entry_of (take (i + 1) es))) ≡ so_far
  old_count on old = ap (before_last (is_old moment days)) (next on) ∙ before_more (is_old moment days) so_far (entry_of e) ∙ ap (λ (b : Bool). if b then so_far else before_last (is_old moment days) so_far) old

  pub young_count : is_full (entry_of e) ≡ true → is_old moment days (entry_of e) ≡ false → before_last (is_old moment days) (filter is_full (map entry_of (take (i + 1) es))) ≡ before_last (is_old moment days) so_far
  young_count on young = ap (before_last (is_old moment days)) (next on) ∙ before_more (is_old moment days) so_far (entry_of e) ∙ ap (λ (b : Bool). if b then so_far else before_last (is_old moment days) so_far) young

-- ---- differentials

-- the labels of differentials among backups
diffs_of : (es : List Entry) → diffs_marked (map mark_of es) ≡ labels_of (filter is_diff es)
diffs_of es = ap (map (λ (m : Mark). m.label)) (sym (map_filter mark_of (λ (m : Mark). is_kind m.kind Diff) es)) ∙ map-map (λ (m : Mark). m.label) mark_of (filter is_diff es)

pub diffs_taken : (es : List Entry) (marks left : List Mark) (labels : List Label) (rule : Option ℕ) (n k : ℕ) → rule ≡ Some n → marks ≡ map mark_of (filter is_counted es) → k ≡ length marks - n → left ≡ take k marks → labels ≡ diffs_marked left → labels ≡ labels_of (diffs_gone rule es)
diffs_taken es marks left labels rule n k rule_is marks_are k_is left_is labels_are =
    let long : length marks ≡ length (filter is_counted es) = ap length marks_are ∙ length-map (filter is_counted es) mark_of in
    let k_so : k ≡ length (filter is_counted es) - n = k_is ∙ ap (λ (x : ℕ). x - n) long in
    labels_are ∙ ap diffs_marked (left_is ∙ ap (λ (l : List Mark). take k l) marks_are ∙ take-map mark_of k (filter is_counted es) ∙ ap (λ (x : ℕ). map mark_of (take x (filter is_counted es))) k_so)
    ∙ diffs_of (all_but_last n (filter is_counted es)) ∙ ap (λ (r : Option ℕ). labels_of (diffs_gone r es)) (sym rule_is)
