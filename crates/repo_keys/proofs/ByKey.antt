-- Keys that are put in byte order one after another.
use Rattle.std.proofs.Common.{◌≡◌, ◌≢◌, ℕ, ◌+◌, ◌<◌, ◌^◌, ◌&&◌, Bool, true, false, if◌then◌else◌, List, [], ◌∷◌, map, length, codes, decimal, Ordering, Less, Equal, Greater, nat_cmp, is_eq, refl, sym, ap, ◌∙◌, subst, arith}
use Rattle.std.specs.Cmp.Lexicographic.{slice_cmp}
use Rattle.std.specs.List.{AllByRecursion}
use Rattle.std.specs.Ordering.{match_ordering, ordering_reverse}
use Rattle.std.proofs.lemmas.Bool.{and_parts}
use Rattle.std.proofs.lemmas.Cmp.{nat_list_cmp_total}
use Rattle.std.proofs.lemmas.Fmt.{decimal_injective, decimal_nonempty}
use Rattle.std.proofs.lemmas.Map.Text.{is_eq-slice_cmp}
use Rattle.std.proofs.lemmas.Slice.Eq.{bytes_eq-Decides}
use Rattle.json.proofs.Printed.Utf8.{IsUtf8-are_ascii}
use Rattle.base_devices.specs.Order.{is_before, are_after}
use Rattle.base_model.specs.Text.{Text}
use Rattle.base_model.specs.InfoText.{IsKey, IsSection, has_keys}
use Rattle.base_model.specs.InfoFiles.{AreFrom}
use Rattle.base_model.specs.Fields.{Field, with_field, with_fields, by_key}

abbrev names : List Field → List Text
names = map (λ k. k.0)

-- ---- one of two texts comes first

by_order : (a b : Text) → a ≢ b → (o : Ordering) → slice_cmp nat_cmp a b ≡ o → match_ordering o true false false ≡ false → is_before b a ≡ true
by_order a b apart Less e h = cc h
by_order a b apart Equal e h = absurd (apart ((bytes_eq-Decides a b).0 (sym (is_eq-slice_cmp a b) ∙ ap is_eq e)))
by_order a b apart Greater e h = ap (λ o. match_ordering o true false false) (nat_list_cmp_total.antisymm b a ∙ ap ordering_reverse e)

pub other_first : (a b : Text) → a ≢ b → is_before a b ≡ false → is_before b a ≡ true
other_first a b apart h = by_order a b apart (slice_cmp nat_cmp a b) refl h

pub both : (a b : Bool) → a ≡ true → b ≡ true → (a && b) ≡ true
both true b h g = g
both false b h g = cc h

-- ---- one key more

pub all_with_field : (P : Field → Type 0) (xs : List Field) (k : Field) → AllByRecursion P xs → P k → AllByRecursion P (with_field xs k)
all_with_field P [] k h p = (p, tt)
all_with_field P (x ∷ xs) k h p = place (is_before k.0 x.0) (all_with_field P xs k h.1 p)
  where
    place : (b : Bool) → AllByRecursion P (with_field xs k) → AllByRecursion P (if b then k ∷ x ∷ xs else x ∷ with_field xs k)
    place true more = (p, h)
    place false more = (h.0, more)

pub with_field_order : (last : Text) (xs : List Field) (k : Field) → are_after last (names xs) ≡ true → is_before last k.0 ≡ true → AllByRecursion (λ x. k.0 ≢ x.0) xs → are_after last (names (with_field xs k)) ≡ true
with_field_order last [] k h first apart = both _ _ first refl
with_field_order last (x ∷ xs) k h first apart =
    let parts = and_parts (is_before last x.0) (are_after x.0 (names xs)) h in
    place parts.0 parts.1 (with_field_order x.0 xs k parts.1) (is_before k.0 x.0) refl
  where
    place : is_before last x.0 ≡ true → are_after x.0 (names xs) ≡ true → (is_before x.0 k.0 ≡ true → AllByRecursion (λ x. k.0 ≢ x.0) xs → are_after x.0 (names (with_field xs k)) ≡ true) → (b : Bool) → is_before k.0 x.0 ≡ b → are_after last (names (if b then k ∷ x ∷ xs else x ∷ with_field xs k)) ≡ true
    place old rest more true e = both _ _ first (both _ _ e rest)
    place old rest more false e = both _ _ old (more (other_first k.0 x.0 apart.0 e) apart.1)

has_keys-with_field : (xs : List Field) (k : Field) → has_keys (with_field xs k) ≡ true
has_keys-with_field [] k = refl
has_keys-with_field (x ∷ xs) k = place (is_before k.0 x.0)
  where
    place : (b : Bool) → has_keys (if b then k ∷ x ∷ xs else x ∷ with_field xs k) ≡ true
    place true = refl
    place false = refl

has_keys-with_fields : (done ks : List Field) → has_keys done ≡ true → has_keys (with_fields done ks) ≡ true
has_keys-with_fields done [] h = h
has_keys-with_fields done (k ∷ ks) h = has_keys-with_fields (with_field done k) ks (has_keys-with_field done k)

-- ---- what has numbers, one after another

-- the key is a number below n
abbrev IsBelow : ℕ → Field → Type 0
IsBelow n k = (m : ℕ) × (m < n) × (k.0 ≡ decimal m)

-- the keys of the numbers before n
record IsDone (n : ℕ) (ks : List Field) : Type 0 where
  keys : AllByRecursion IsKey ks
  order : are_after [] (names ks) ≡ true
  below : AllByRecursion (IsBelow n) ks

apart_from : (n : ℕ) (k : Field) (ks : List Field) → n < 2 ^ 64 → k.0 ≡ decimal n → AllByRecursion (IsBelow n) ks → AllByRecursion (λ x. k.0 ≢ x.0) ks
apart_from n k [] h is below = tt
apart_from n k (x ∷ ks) h is below =
    let (m, less, name) = below.0 in
    (λ e. let same : n ≡ m = decimal_injective n m h (omega arith) (sym is ∙ e ∙ name) in omega arith, apart_from n k ks h is below.1)

below_more : (n : ℕ) (ks : List Field) → AllByRecursion (IsBelow n) ks → AllByRecursion (IsBelow (n + 1)) ks
below_more n [] h = tt
below_more n (x ∷ ks) h = let (m, less, name) = h.0 in ((m, omega arith, name), below_more n ks h.1)

pub after_nothing : (name : Text) → 0 < length name → is_before [] name ≡ true
after_nothing [] h = absurd (omega arith)
after_nothing (c ∷ cs) h = refl

one_more : (n : ℕ) (k : Field) (ks : List Field) → n < 2 ^ 64 → IsKey k → k.0 ≡ decimal n → IsDone n ks → IsDone (n + 1) (with_field ks k)
one_more n k ks h key is done = record {
  keys = all_with_field IsKey ks k done.keys key;
  order = with_field_order [] ks k done.order (after_nothing k.0 (rw is (decimal_nonempty n h))) (apart_from n k ks h is done.below);
  below = all_with_field (IsBelow (n + 1)) ks k (below_more n ks done.below) (n, omega arith, is);
}

module _ {X : Type 0} (P : X → Type 0) (id : X → ℕ) (field : X → Field) (named : (x : X) → (field x).0 ≡ decimal (id x)) (small : (x : X) → P x → id x < 2 ^ 64) (key : (x : X) → P x → IsKey (field x)) where
  all_more : (xs : List X) (n : ℕ) (ks : List Field) → AllByRecursion P xs → AreFrom n (map id xs) → IsDone n ks → (m : ℕ) × IsDone m (with_fields ks (map field xs))
  all_more [] n ks h from done = (n, done)
  all_more (x ∷ xs) n ks h from done =
      let bound : n < 2 ^ 64 = subst (λ m. m < 2 ^ 64) from.0 (small x h.0) in
      all_more xs (n + 1) (with_field ks (field x)) h.1 from.1 (one_more n (field x) ks bound (key x h.0) (named x ∙ ap decimal from.0) done)

  pub some_key : (xs : List X) → 0 < length xs → has_keys (by_key (map field xs)) ≡ true
  some_key [] h = absurd (omega arith)
  some_key (x ∷ xs) h = has_keys-with_fields (field x ∷ []) (map field xs) refl

  -- a history, whose numbers are 1, 2, 3 and so on, is a section
  pub history_rules : (xs : List X) → 0 < length xs → AllByRecursion P xs → AreFrom 1 (map id xs) → IsSection (record { name = codes "db:history"; keys = by_key (map field xs) })
  history_rules xs some h from =
      let done = (all_more xs 1 [] h from (record { keys = tt; order = refl; below = tt })).1 in
      record { name = refl; utf8 = IsUtf8-are_ascii (codes "db:history") refl; some = some_key xs some; keys = done.keys; order = done.order }
