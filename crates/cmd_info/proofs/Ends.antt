-- Lists of names with the same first and last segments are reported alike.
use Rattle.std.proofs.Common.{◌≡◌, inl, inr, ⊎_elim, List, [], ◌∷◌, fold, Bool, true, false, Some, refl, sym, ap, ◌∙◌, subst}
use Rattle.std.specs.Prelude.{◌⊎◌}
use Rattle.std.specs.List.{reduce}
use Rattle.std.specs.declared.cmp.Ordering.{Ordering}
use Rattle.std.specs.declared.cmp.Ordering.TheVariants.{Less, Equal, Greater}
use Rattle.std.specs.Ordering.{is_gt, ordering_reverse, min_by_ordering, max_by_ordering}
use Rattle.std.specs.Cmp.{upto, tied_itself}
use Rattle.std.proofs.lemmas.Cmp.{nat_list_cmp_total}
use Rattle.std.proofs.lemmas.Map.Lookups.{exact_bytes}
use Rattle.base_model.specs.Text.{Text, In, text_cmp}
use Rattle.cmd_info.specs.Archived.{lesser, greater, least, greatest}

-- ---- byte order

abbrev pub Le : Text → Text → Type 0
Le a b = is_gt (text_cmp a b) ≡ false

pub le_itself : (a : Text) → Le a a
le_itself a = ap is_gt (tied_itself nat_list_cmp_total a)

le_on : (a b c : Text) → Le a b → Le b c → Le a c
le_on a b c = upto nat_list_cmp_total a b c

same_by : (a b : Text) (r : Ordering) → text_cmp a b ≡ r → is_gt r ≡ false → Le b a → a ≡ b
same_by a b Less is p q = let back : text_cmp b a ≡ Greater = nat_list_cmp_total.antisymm b a ∙ ap ordering_reverse is in let no : ◌≡◌ {A = Bool} true false = sym (ap is_gt back) ∙ q in cc
same_by a b Equal is p q = exact_bytes a b is
same_by a b Greater is p q = cc

le_both : (a b : Text) → Le a b → Le b a → a ≡ b
le_both a b p q = same_by a b (text_cmp a b) refl p q

-- ---- what is picked of a list

module _ (Before : Text → Text → Type 0) (itself : (a : Text) → Before a a) (on : (a b c : Text) → Before a b → Before b c → Before a c) (both : (a b : Text) → Before a b → Before b a → a ≡ b)
    (pick : Text → Text → Text) (one : (a b : Text) → (pick a b ≡ a) ⊎ (pick a b ≡ b)) (first : (a b : Text) → Before (pick a b) a) (second : (a b : Text) → Before (pick a b) b) where
  picked_in : (a : Text) (xs : List Text) → In (fold pick a xs) (a ∷ xs)
  picked_in a [] = inl refl
  picked_in a (x ∷ xs) = ⊎_elim
      (λ (e : fold pick (pick a x) xs ≡ pick a x). ⊎_elim (λ (d : pick a x ≡ a). inl (e ∙ d)) (λ (d : pick a x ≡ x). inr (inl (e ∙ d))) (one a x))
      (λ (i : In (fold pick (pick a x) xs) xs). inr (inr i))
      (picked_in (pick a x) xs)

  picked_first : (a : Text) (xs : List Text) (z : Text) → In z (a ∷ xs) → Before (fold pick a xs) z
  picked_first a [] z (inl e) = subst (Before a) (sym e) (itself a)
  picked_first a [] z (inr i) = absurd i
  picked_first a (x ∷ xs) z (inl e) = subst (Before (fold pick (pick a x) xs)) (sym e) (on _ (pick a x) a (picked_first (pick a x) xs (pick a x) (inl refl)) (first a x))
  picked_first a (x ∷ xs) z (inr (inl e)) = subst (Before (fold pick (pick a x) xs)) (sym e) (on _ (pick a x) x (picked_first (pick a x) xs (pick a x) (inl refl)) (second a x))
  picked_first a (x ∷ xs) z (inr (inr i)) = picked_first (pick a x) xs z (inr i)

  -- each of the second has one of the first before it
  abbrev Reaches : List Text → List Text → Type 0
  Reaches xs ys = (y : Text) → In y ys → (x : Text) × In x xs × Before x y

  pub same_pick : (xs ys : List Text) → Reaches xs ys → Reaches ys xs → reduce pick xs ≡ reduce pick ys
  same_pick [] [] p q = refl
  same_pick [] (y ∷ ys) p q = absurd (p y (inl refl)).1
  same_pick (x ∷ xs) [] p q = absurd (q x (inl refl)).1
  same_pick (x ∷ xs) (y ∷ ys) p q =
      let m = fold pick x xs in
      let n = fold pick y ys in
      let (a, there, low) = p n (picked_in y ys) in
      let (b, here, less) = q m (picked_in x xs) in
      ap (λ (t : Text). Some t) (both m n (on m a n (picked_first x xs a there) low) (on n b m (picked_first y ys b here) less))

-- ---- the least and the greatest

least_one : (r : Ordering) (a b : Text) → (min_by_ordering r a b ≡ a) ⊎ (min_by_ordering r a b ≡ b)
least_one Less a b = inl refl
least_one Equal a b = inl refl
least_one Greater a b = inr refl

least_first : (a b : Text) (r : Ordering) → text_cmp a b ≡ r → Le (min_by_ordering r a b) a
least_first a b Less is = le_itself a
least_first a b Equal is = le_itself a
least_first a b Greater is = ap is_gt (nat_list_cmp_total.antisymm b a ∙ ap ordering_reverse is)

least_second : (a b : Text) (r : Ordering) → text_cmp a b ≡ r → Le (min_by_ordering r a b) b
least_second a b Less is = ap is_gt is
least_second a b Equal is = ap is_gt is
least_second a b Greater is = le_itself b

greatest_one : (r : Ordering) (a b : Text) → (max_by_ordering r a b ≡ a) ⊎ (max_by_ordering r a b ≡ b)
greatest_one Less a b = inr refl
greatest_one Equal a b = inr refl
greatest_one Greater a b = inl refl

greatest_first : (a b : Text) (r : Ordering) → text_cmp a b ≡ r → Le a (max_by_ordering r a b)
greatest_first a b Less is = ap is_gt is
greatest_first a b Equal is = ap is_gt is
greatest_first a b Greater is = le_itself a

greatest_second : (a b : Text) (r : Ordering) → text_cmp a b ≡ r → Le b (max_by_ordering r a b)
greatest_second a b Less is = le_itself b
greatest_second a b Equal is = le_itself b
greatest_second a b Greater is = ap is_gt (nat_list_cmp_total.antisymm b a ∙ ap ordering_reverse is)

abbrev pub AtOrBefore : List Text → List Text → Type 0
AtOrBefore xs ys = (y : Text) → In y ys → (x : Text) × In x xs × Le x y

abbrev pub AtOrAfter : List Text → List Text → Type 0
AtOrAfter xs ys = (y : Text) → In y ys → (x : Text) × In x xs × Le y x

pub same_least : (xs ys : List Text) → AtOrBefore xs ys → AtOrBefore ys xs → least xs ≡ least ys
same_least = same_pick Le le_itself le_on le_both lesser (λ a b. least_one (text_cmp a b) a b) (λ a b. least_first a b (text_cmp a b) refl) (λ a b. least_second a b (text_cmp a b) refl)

pub same_greatest : (xs ys : List Text) → AtOrAfter xs ys → AtOrAfter ys xs → greatest xs ≡ greatest ys
same_greatest = same_pick (λ a b. Le b a) le_itself (λ a b c p q. le_on c b a q p) (λ a b p q. le_both a b q p) greater
    (λ a b. greatest_one (text_cmp a b) a b) (λ a b. greatest_first a b (text_cmp a b) refl) (λ a b. greatest_second a b (text_cmp a b) refl)
