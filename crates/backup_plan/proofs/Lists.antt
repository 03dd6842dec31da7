-- Elements of lists, and what a loop over one has passed.
use Rattle.std.proofs.Common.{◌≡◌, ◌⊎◌, ⊎_elim, inl, inr, ℕ, suc, ◌+◌, ◌<◌, ◌≤◌, List, [], ◌∷◌, ◌++◌, map, take, drop, length, get_or, refl, sym, ap, ◌∙◌, subst, arith, take-append-drop}
use Rattle.std.specs.Prelude.{Bool, true, false, IsTrue}
use Rattle.std.proofs.Math.Seq.{drop-cons}
use Rattle.std.proofs.lemmas.List.{map-append, take_more, take_all}
use Rattle.base_model.specs.Text.{Text, In, ◌⫽◌}
use Rattle.backup_plan.proofs.Searched.{in_at}

pub no_truth : {P : Type 0} → IsTrue false → P
no_truth t = absurd (let e : ◌≡◌ {A = Bool} false true = t in cc)

pub in_map : {X Y : Type 0} (f : X → Y) (xs : List X) (x : X) → In x xs → In (f x) (map f xs)
in_map f [] x i = absurd i
in_map f (y ∷ ys) x (inl e) = inl (ap f e)
in_map f (y ∷ ys) x (inr j) = inr (in_map f ys x j)

pub of_map : {X Y : Type 0} (f : X → Y) (xs : List X) (y : Y) → In y (map f xs) → (x : X) × In x xs × (f x ≡ y)
of_map f [] y i = absurd i
of_map f (x ∷ xs) y (inl e) = (x, inl refl, sym e)
of_map f (x ∷ xs) y (inr j) = let r = of_map f xs y j in (r.0, inr r.1, r.2)

pub map_map : {X Y Z : Type 0} (f : Y → Z) (g : X → Y) (xs : List X) → map f (map g xs) ≡ map (λ x. f (g x)) xs
map_map f g [] = refl
map_map {X} {Y} {Z} f g (x ∷ xs) = ap (λ (zs : List Z). f (g x) ∷ zs) (map_map f g xs)

pub in_parts : {X : Type 0} (xs ys : List X) (x : X) → In x (xs ++ ys) → In x xs ⊎ In x ys
in_parts [] ys x i = inr i
in_parts (z ∷ xs) ys x (inl e) = inl (inl e)
in_parts (z ∷ xs) ys x (inr i) = ⊎_elim (λ (j : In x xs). inl (inr j)) (λ (j : In x ys). inr j) (in_parts xs ys x i)

module _ {X Y : Type 0} (f : X → Y) (xs : List X) (i : ℕ) (x : X) (less : i < length xs) (is : x ≡ get_or xs i x) where
  -- the element that a loop is at
  pub there : In (f x) (map f xs)
  there = in_map f xs x (subst (λ (y : X). In y xs) (sym is) (in_at xs i x less))

  -- those that it has passed, and this one
  pub passed : map f (take (i + 1) xs) ≡ map f (take i xs) ++ f x ∷ []
  passed = ap (map f) (take_more xs i x less) ∙ map-append f (take i xs) (get_or xs i x ∷ []) ∙ ap (λ (y : X). map f (take i xs) ++ f y ∷ []) (sym is)

  pub all_next : (P : Y → Type 0) → ((y : Y) → In y (map f (take i xs)) → P y) → P (f x) → (y : Y) → In y (map f (take (i + 1) xs)) → P y
  all_next P all this y here = ⊎_elim
      (λ (j : In y (map f (take i xs))). all y j)
      (λ (j : In y (f x ∷ [])). ⊎_elim (λ (e : y ≡ f x). subst P (sym e) this) (λ (none : ⊥). absurd none) j)
      (in_parts (map f (take i xs)) (f x ∷ []) y (subst (λ (ys : List Y). In y ys) passed here))

pub all_end : {X Y : Type 0} (f : X → Y) (xs : List X) (i : ℕ) (P : Y → Type 0) → length xs ≤ i → ((y : Y) → In y (map f (take i xs)) → P y) → (y : Y) → In y (map f xs) → P y
all_end {X} f xs i P done all y here = all y (subst (λ (ys : List X). In y (map f ys)) (sym (take_all i xs done)) here)

-- what comes before a slash, and after it
pub cut : (path : Text) (i : ℕ) → i < length path → 47 ≡ get_or path i 47 → path ≡ take i path ⫽ drop (i + 1) path
cut path i less is =
    let next : suc i ≡ i + 1 = omega arith in
    sym (take-append-drop i path) ∙ ap (λ (l : Text). take i path ++ l) (drop-cons path i 47 less ∙ ap (λ (c : ℕ). c ∷ drop (suc i) path) (sym is) ∙ ap (λ (k : ℕ). 47 ∷ drop k path) next)
