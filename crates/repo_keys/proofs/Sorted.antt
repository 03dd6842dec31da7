-- Lists in the order of their names.
use Rattle.std.proofs.Common.{◌≡◌, ◌⊎◌, ⊎_elim, inl, inr, ◌+◌, ◌≤◌, Bool, true, false, if◌then◌else◌, List, [], ◌∷◌, map, length, Less, nat_cmp, refl, sym, ap, ◌∙◌, subst, arith}
use Rattle.std.specs.Cmp.Lexicographic.{slice_cmp}
use Rattle.std.proofs.lemmas.Bool.{and_parts}
use Rattle.std.proofs.lemmas.Cmp.{nat_list_cmp_total}
use Rattle.base_devices.specs.Order.{is_before, are_after}
use Rattle.base_model.specs.Text.{Text, In}
use Rattle.base_model.specs.Fields.{Field, with_field, with_fields, by_key}
use Rattle.repo_ini.proofs.Orders.{less_from, not_itself}

abbrev pub Before : Text → Text → Type 0
Before a b = slice_cmp nat_cmp a b ≡ Less

module _ {X : Type 0} (name : X → Text) where
  abbrev pub Sorted : Text → List X → Type 0
  Sorted last xs = are_after last (map name xs) ≡ true

  pub later : (last : Text) (xs : List X) (x : X) → Sorted last xs → In x xs → Before last (name x)
  later last [] x h i = absurd i
  later last (y ∷ ys) x h (inl e) = let p = and_parts (is_before last (name y)) (are_after (name y) (map name ys)) h in subst (λ (z : X). Before last (name z)) (sym e) (less_from last (name y) p.0)
  later last (y ∷ ys) x h (inr i) = let p = and_parts (is_before last (name y)) (are_after (name y) (map name ys)) h in nat_list_cmp_total.trans last (name y) (name x) (less_from last (name y) p.0) (later (name y) ys x p.1 i)

  pub rest : (last : Text) (y : X) (ys : List X) → Sorted last (y ∷ ys) → Sorted (name y) ys
  rest last y ys h = (and_parts (is_before last (name y)) (are_after (name y) (map name ys)) h).1

  -- a name is once
  pub unique : (last : Text) (xs : List X) (x y : X) → Sorted last xs → In x xs → In y xs → name x ≡ name y → x ≡ y
  unique last [] x y h i j same = absurd i
  unique last (z ∷ zs) x y h (inl e) (inl f) same = e ∙ sym f
  unique last (z ∷ zs) x y h (inl e) (inr j) same = absurd (not_itself (name z) (name y) (later (name z) zs y (rest last z zs h) j) (ap name (sym e) ∙ same))
  unique last (z ∷ zs) x y h (inr i) (inl f) same = absurd (not_itself (name z) (name x) (later (name z) zs x (rest last z zs h) i) (ap name (sym f) ∙ sym same))
  unique last (z ∷ zs) x y h (inr i) (inr j) same = unique (name z) zs x y (rest last z zs h) i j same

  -- what is in x and those after it, but isn't x
  following : (x : X) (xs ys : List X) → ((z : X) → In z ys → In z (x ∷ xs)) → ((z : X) → In z ys → z ≡ x → ⊥) → (z : X) → In z ys → In z xs
  following x xs ys all other z i = ⊎_elim (λ (e : z ≡ x). absurd (other z i e)) (λ j. j) (all z i)

  both : (y : X) (xs ys : List X) → In y xs → ((z : X) → In z ys → In z xs) → (z : X) → In z (y ∷ ys) → In z xs
  both y xs ys i all z (inl e) = subst (λ (w : X). In w xs) (sym e) i
  both y xs ys i all z (inr j) = all z j

  -- those after y aren't y
  not_first : (last : Text) (y : X) (ys : List X) → Sorted last (y ∷ ys) → (z : X) → In z ys → z ≡ y → ⊥
  not_first last y ys h z i e = not_itself (name y) (name z) (later (name y) ys z (rest last y ys h) i) (ap name (sym e))

  -- x comes before y, so it isn't after it
  not_before : (last last' : Text) (x : X) (xs : List X) (y : X) (ys : List X) → Sorted last (x ∷ xs) → Sorted last' (y ∷ ys) → In y xs → (z : X) → In z ys → z ≡ x → ⊥
  not_before last last' x xs y ys h g i z j e =
      let first = later (name x) xs y (rest last x xs h) i in
      let second = later (name y) ys z (rest last' y ys g) j in
      not_itself (name x) (name z) (nat_list_cmp_total.trans (name x) (name y) (name z) first second) (ap name (sym e))

  -- as many at most as those among which they are
  pub fits : (last last' : Text) (xs ys : List X) → Sorted last xs → Sorted last' ys → ((z : X) → In z ys → In z xs) → length ys ≤ length xs
  fits last last' xs [] h g all = omega arith
  fits last last' [] (y ∷ ys) h g all = absurd (all y (inl refl))
  fits last last' (x ∷ xs) (y ∷ ys) h g all = ⊎_elim
      (λ (e : y ≡ x).
      let few = fits (name x) (name y) xs ys (rest last x xs h) (rest last' y ys g) (following x xs ys (λ z i. all z (inr i)) (λ z i f. not_first last' y ys g z i (f ∙ sym e))) in
      omega (arith, few))
      (λ (i : In y xs).
      let few = fits (name x) last' xs (y ∷ ys) (rest last x xs h) g (both y xs ys i (following x xs ys (λ z j. all z (inr j)) (not_before last last' x xs y ys h g i))) in
      omega (arith, few))
      (all y (inl refl))

  -- as many in one order are the same
  pub same_list : (last last' : Text) (xs ys : List X) → Sorted last xs → Sorted last' ys → ((z : X) → In z ys → In z xs) → length xs ≤ length ys → xs ≡ ys
  same_list last last' [] [] h g all long = refl
  same_list last last' [] (y ∷ ys) h g all long = absurd (all y (inl refl))
  same_list last last' (x ∷ xs) [] h g all long = absurd (omega arith)
  same_list last last' (x ∷ xs) (y ∷ ys) h g all long = ⊎_elim
      (λ (e : y ≡ x).
      let more = same_list (name x) (name y) xs ys (rest last x xs h) (rest last' y ys g) (following x xs ys (λ z i. all z (inr i)) (λ z i f. not_first last' y ys g z i (f ∙ sym e))) (omega arith) in
      ap (λ (w : X). w ∷ xs) (sym e) ∙ ap (λ (ws : List X). y ∷ ws) more)
      (λ (i : In y xs).
      let few = fits (name x) last' xs (y ∷ ys) (rest last x xs h) g (both y xs ys i (following x xs ys (λ z j. all z (inr j)) (not_before last last' x xs y ys h g i))) in
      absurd (omega (arith, few)))
      (all y (inl refl))

-- ---- by key

length_with_field : (xs : List Field) (k : Field) → length (with_field xs k) ≡ length xs + 1
length_with_field [] k = refl
length_with_field (x ∷ xs) k = place (is_before k.0 x.0) (length_with_field xs k)
  where
    place : (b : Bool) → length (with_field xs k) ≡ length xs + 1 → length (if b then k ∷ x ∷ xs else x ∷ with_field xs k) ≡ length (x ∷ xs) + 1
    place true e = omega arith
    place false e = omega (arith, e)

in_with_field : (xs : List Field) (k z : Field) → In z (with_field xs k) → (z ≡ k) ⊎ In z xs
in_with_field [] k z h = h
in_with_field (x ∷ xs) k z h = place (is_before k.0 x.0) (in_with_field xs k z) h
  where
    place : (b : Bool) → (In z (with_field xs k) → (z ≡ k) ⊎ In z xs) → In z (if b then k ∷ x ∷ xs else x ∷ with_field xs k) → (z ≡ k) ⊎ In z (x ∷ xs)
    place true more i = i
    place false more (inl e) = inr (inl e)
    place false more (inr i) = ⊎_elim (λ e. inl e) (λ j. inr (inr j)) (more i)

with_field_in : (xs : List Field) (k z : Field) → (z ≡ k) ⊎ In z xs → In z (with_field xs k)
with_field_in [] k z h = h
with_field_in (x ∷ xs) k z h = place (is_before k.0 x.0) (with_field_in xs k z) h
  where
    place : (b : Bool) → ((z ≡ k) ⊎ In z xs → In z (with_field xs k)) → (z ≡ k) ⊎ In z (x ∷ xs) → In z (if b then k ∷ x ∷ xs else x ∷ with_field xs k)
    place true more i = i
    place false more (inl e) = inr (more (inl e))
    place false more (inr (inl e)) = inl e
    place false more (inr (inr i)) = inr (more (inr i))

length_with_fields : (xs ks : List Field) → length (with_fields xs ks) ≡ length xs + length ks
length_with_fields xs [] = omega arith
length_with_fields xs (k ∷ ks) = omega (arith, length_with_fields (with_field xs k) ks, length_with_field xs k)

pub length_by_key : (ks : List Field) → length (by_key ks) ≡ length ks
length_by_key ks = omega (arith, length_with_fields [] ks)

in_with_fields : (xs ks : List Field) (z : Field) → In z (with_fields xs ks) → In z xs ⊎ In z ks
in_with_fields xs [] z h = inl h
in_with_fields xs (k ∷ ks) z h = ⊎_elim (λ i. ⊎_elim (λ e. inr (inl e)) (λ j. inl j) (in_with_field xs k z i)) (λ i. inr (inr i)) (in_with_fields (with_field xs k) ks z h)

with_fields_in : (xs ks : List Field) (z : Field) → In z xs ⊎ In z ks → In z (with_fields xs ks)
with_fields_in xs [] z (inl h) = h
with_fields_in xs [] z (inr h) = absurd h
with_fields_in xs (k ∷ ks) z (inl h) = with_fields_in (with_field xs k) ks z (inl (with_field_in xs k z (inr h)))
with_fields_in xs (k ∷ ks) z (inr (inl e)) = with_fields_in (with_field xs k) ks z (inl (with_field_in xs k z (inl e)))
with_fields_in xs (k ∷ ks) z (inr (inr h)) = with_fields_in (with_field xs k) ks z (inr h)

pub by_key_in : (ks : List Field) (z : Field) → In z ks → In z (by_key ks)
by_key_in ks z h = with_fields_in [] ks z (inr h)

pub in_by_key : (ks : List Field) (z : Field) → In z (by_key ks) → In z ks
in_by_key ks z h = ⊎_elim (λ (none : ⊥). absurd none) (λ i. i) (in_with_fields [] ks z h)
