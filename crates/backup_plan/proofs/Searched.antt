-- What a binary search by name says about a list in the order of its names.
use Rattle.std.proofs.Common.{◌≡◌, ⊎_elim, inl, inr, ℕ, zero, suc, ◌<◌, ◌≤◌, true, List, [], ◌∷◌, map, length, Ordering, Less, Equal, Greater, nat_cmp, refl, sym, ap, ◌∙◌, subst, arith}
use Rattle.std.specs.Prelude.{slice_index_or}
use Rattle.std.specs.Cmp.Lexicographic.{slice_cmp}
use Rattle.std.specs.List.{HoldsAt}
use Rattle.std.specs.List.Sorted.{IsNonDecreasingBy, IsPartitionPoint}
use Rattle.std.specs.Ordering.{ordering_index, ordering_reverse}
use Rattle.std.proofs.lemmas.Bool.{and_parts}
use Rattle.std.proofs.lemmas.Bool.{cases_lt}
use Rattle.std.proofs.lemmas.Cmp.{nat_list_cmp_total, tied_itself, tied_back}
use Rattle.std.proofs.lemmas.Map.Lookups.{exact_bytes}
use Rattle.base_devices.specs.Order.{is_before, are_after, are_in_order}
use Rattle.base_model.specs.Text.{Text, In}
use Rattle.repo_ini.proofs.Orders.{less_from}

pub in_at : {X : Type 0} (xs : List X) (i : ℕ) (d : X) → i < length xs → In (slice_index_or xs i d) xs
in_at [] i d less = absurd (omega (arith, less))
in_at (x ∷ xs) zero d less = inl refl
in_at (x ∷ xs) (suc i) d less = inr (in_at xs i d (omega (arith, less)))

pub at_of : {X : Type 0} (xs : List X) (x : X) → In x xs → (k : ℕ) × (k < length xs) × ((d : X) → slice_index_or xs k d ≡ x)
at_of [] x i = absurd i
at_of (y ∷ ys) x (inl e) = (0, omega arith, λ d. sym e)
at_of (y ∷ ys) x (inr j) = let k = at_of ys x j in (suc k.0, omega (arith, k.1), k.2)

abbrev compared : Text → Text → Ordering
compared a b = slice_cmp nat_cmp a b

-- which of the three a comparison gives
kind : (o : Ordering) → (P : Ordering → Type 0) → (o ≡ Less → P Less) → (o ≡ Equal → P Equal) → (o ≡ Greater → P Greater) → P o
kind Less P l e g = l refl
kind Equal P l e g = e refl
kind Greater P l e g = g refl

-- the earlier of two names is the lower one besides any key
rank : (a b key : Text) → compared a b ≡ Less → ordering_index (compared a key) ≤ ordering_index (compared b key)
rank a b key less = kind (compared b key) (λ o. ordering_index (compared a key) ≤ ordering_index o)
    (λ is. let first : compared a key ≡ Less = nat_list_cmp_total.trans a b key less is in rw first (omega arith))
    (λ is. let first : compared a key ≡ Less = before_same a b key less is in rw first (omega arith))
    (λ is. at_most (compared a key))
  where
    at_most : (o : Ordering) → ordering_index o ≤ 2
    at_most Less = omega arith
    at_most Equal = omega arith
    at_most Greater = omega arith

    before_same : (a b key : Text) → compared a b ≡ Less → compared b key ≡ Equal → compared a key ≡ Less
    before_same a b key less same =
        let back : compared key b ≡ Equal = tied_back nat_list_cmp_total b key same in
        -- key and b compare alike with a, from the other side
        let turned = nat_list_cmp_total.antisymm a key in
        let other = nat_list_cmp_total.antisymm a b in
        turned ∙ ap (λ (o : Ordering). ordering_reverse o) (nat_list_cmp_total.congr key b a back) ∙ sym other ∙ less

module _ {X : Type 0} (name : X → Text) where
  -- those after a name come after it
  pub later : (last : Text) (xs : List X) (x : X) → are_after last (map name xs) ≡ true → In x xs → compared last (name x) ≡ Less
  later last [] x h i = absurd i
  later last (y ∷ ys) x h i =
      let p = and_parts (is_before last (name y)) (are_after (name y) (map name ys)) h in
      let first = less_from last (name y) p.0 in
      ⊎_elim
      (λ (e : x ≡ y). subst (λ (z : X). compared last (name z) ≡ Less) (sym e) first)
      (λ (j : In x ys). nat_list_cmp_total.trans last (name y) (name x) first (later (name y) ys x p.1 j))
      i

  rise_from : (key : Text) (x : X) (xs : List X) → are_after (name x) (map name xs) ≡ true → IsNonDecreasingBy (λ y. ordering_index (compared (name y) key)) (x ∷ xs)
  rise_from key x xs h zero zero d le less = omega arith
  rise_from key x xs h zero (suc j) d le less = rank (name x) (name (slice_index_or xs j d)) key (later (name x) xs (slice_index_or xs j d) h (in_at xs j d (omega (arith, less))))
  rise_from key x xs h (suc i) zero d le less = absurd (omega (arith, le))
  rise_from key x [] h (suc i) (suc j) d le less = absurd (omega (arith, less))
  rise_from key x (y ∷ ys) h (suc i) (suc j) d le less =
      let p = and_parts (is_before (name x) (name y)) (are_after (name y) (map name ys)) h in
      rise_from key y ys p.1 i j d (omega (arith, le)) (omega (arith, less))

  pub rises : (key : Text) (xs : List X) → are_in_order (map name xs) ≡ true → IsNonDecreasingBy (λ y. ordering_index (compared (name y) key)) xs
  rises key [] h = λ i j d le less. absurd (omega (arith, less))
  rises key (x ∷ xs) h = rise_from key x xs h

  -- the name that was found is the one that was searched for
  pub found : (key : Text) (xs : List X) (i : ℕ) (d : X) → HoldsAt (λ y. compared (name y) key ≡ Equal) xs i → name (slice_index_or xs i d) ≡ key
  found key xs i d h = exact_bytes (name (slice_index_or xs i d)) key (h d)

  -- where none was found there is none
  pub absent : (key : Text) (xs : List X) (i : ℕ) → IsPartitionPoint (λ y. compared (name y) key ≡ Less) (λ y. compared (name y) key ≡ Greater) xs i → (x : X) → In x xs → name x ≡ key → ⊥
  absent key xs i point x here same =
      let at = at_of xs x here in
      let equal : compared (name (slice_index_or xs at.0 x)) key ≡ Equal = ap (λ (y : X). compared (name y) key) (at.2 x) ∙ ap (λ (n : Text). compared n key) same ∙ tied_itself nat_list_cmp_total key in
      ⊎_elim
      (λ (below : at.0 < i). let less : ◌≡◌ {A = Ordering} Equal Less = sym equal ∙ point.0 at.0 x (omega arith) below in cc less)
      (λ (above : i ≤ at.0). let more : ◌≡◌ {A = Ordering} Equal Greater = sym equal ∙ point.1 at.0 x above at.1 in cc more)
      (cases_lt at.0 i)
