-- Members of filtered lists.
use Rattle.std.proofs.Common.{◌≡◌, ◌⊎◌, ⊎_elim, inl, inr, Bool, true, false, List, [], ◌∷◌, ◌++◌, map, cond, refl, ap, ◌∙◌, sym, subst, arith}
use Rattle.std.specs.Prelude.{filter, Any, slice_index_or, length, ℕ, zero, suc, ◌<◌}
use Rattle.std.proofs.lemmas.Bool.{false≢true}
use Rattle.base_model.specs.Text.{In}

-- what a filter has is in the list, and passes
pub in_filter : {X : Type 0} (p : X → Bool) (y : X) (xs : List X) → In y (filter p xs) → In y xs × (p y ≡ true)
in_filter p y [] at = absurd at
in_filter {X} p y (x ∷ xs) at = go (λ i. in_filter p y xs i) (p x) refl at
  where
    go : (In y (filter p xs) → In y xs × (p y ≡ true)) → (b : Bool) → p x ≡ b → In y (cond b (x ∷ filter p xs) (filter p xs)) → In y (x ∷ xs) × (p y ≡ true)
    go more true e (inl same) = (inl same, ap p same ∙ e)
    go more true e (inr i) = let h = more i in (inr h.0, h.1)
    go more false e i = let h = more i in (inr h.0, h.1)

pub filter_in : {X : Type 0} (p : X → Bool) (y : X) (xs : List X) → In y xs → p y ≡ true → In y (filter p xs)
filter_in p y [] at pass = absurd at
filter_in {X} p y (x ∷ xs) at pass = go (λ i. filter_in p y xs i pass) (p x) refl at
  where
    go : (In y xs → In y (filter p xs)) → (b : Bool) → p x ≡ b → In y (x ∷ xs) → In y (cond b (x ∷ filter p xs) (filter p xs))
    go more true e (inl same) = inl same
    go more true e (inr i) = inr (more i)
    go more false e (inl same) = absurd (false≢true (sym e ∙ ap p (sym same) ∙ pass))
    go more false e (inr i) = more i

-- a filter by what is made of each
pub map_filter : {X Y : Type 0} (h : X → Y) (p : Y → Bool) (xs : List X) → map h (filter (λ x. p (h x)) xs) ≡ filter p (map h xs)
map_filter h p [] = refl
map_filter {X} {Y} h p (x ∷ xs) = go (map_filter h p xs) (p (h x))
  where
    go : map h (filter (λ x. p (h x)) xs) ≡ filter p (map h xs) → (b : Bool) → map h (cond b (x ∷ filter (λ x. p (h x)) xs) (filter (λ x. p (h x)) xs)) ≡ cond b (h x ∷ filter p (map h xs)) (filter p (map h xs))
    go more true = ap (λ (ys : List Y). h x ∷ ys) more
    go more false = more

pub in_left : {X : Type 0} (x : X) (xs ys : List X) → In x xs → In x (xs ++ ys)
in_left x [] ys h = absurd h
in_left x (z ∷ xs) ys (inl e) = inl e
in_left x (z ∷ xs) ys (inr i) = inr (in_left x xs ys i)

pub in_right : {X : Type 0} (x : X) (xs ys : List X) → In x ys → In x (xs ++ ys)
in_right x [] ys h = h
in_right x (z ∷ xs) ys h = inr (in_right x xs ys h)

pub in_append : {X : Type 0} (x : X) (xs ys : List X) → In x (xs ++ ys) → In x xs ⊎ In x ys
in_append x [] ys h = inr h
in_append x (z ∷ xs) ys (inl e) = inl (inl e)
in_append x (z ∷ xs) ys (inr h) = ⊎_elim (λ i. inl (inr i)) (λ i. inr i) (in_append x xs ys h)

-- one that is somewhere in a list
pub any_at : {X : Type 0} (P : X → Type 0) (xs : List X) (k : ℕ) (x : X) → k < length xs → slice_index_or xs k x ≡ x → P x → (y : X) × In y xs × P y
any_at P [] k x low is holds = absurd (omega arith)
any_at P (y ∷ ys) zero x low is holds = (y, inl refl, subst P (sym is) holds)
any_at P (y ∷ ys) (suc k) x low is holds = let (z, i, h) = any_at P ys k x (omega arith) is holds in (z, inr i, h)

pub any_in : {X : Type 0} (P : X → Type 0) (xs : List X) → Any P xs → (y : X) × In y xs × P y
any_in P xs a = let (k, x, low, is, holds) = a in any_at P xs k x low is holds
