-- What a loop over a list has passed, and what is still to come.
use Rattle.std.proofs.Common.{◌≡◌, ◌⊎◌, ⊎_elim, inl, inr, ℕ, suc, ◌+◌, ◌<◌, ◌≤◌, List, [], ◌∷◌, map, length, get_or, drop, refl, sym, ap, ◌∙◌, subst, arith}
use Rattle.std.proofs.Math.Seq.{drop-cons}
use Rattle.std.proofs.Math.ListN.{drop_of_length-le}
use Rattle.std.specs.Prelude.{Bool, true, false, bytes_eq}
use Rattle.std.proofs.lemmas.Slice.Eq.{bytes_eq-Decides}
use Rattle.base_model.specs.Text.{Text, In}

module _ {X Y : Type 0} (f : X → Y) where
  pub opened : (xs : List X) (i : ℕ) (x : X) → i < length xs → x ≡ get_or xs i x → drop i xs ≡ x ∷ drop (i + 1) xs
  opened xs i x h is =
      let one : suc i ≡ i + 1 = omega arith in
      drop-cons xs i x h ∙ ap (λ (y : X). y ∷ drop (suc i) xs) (sym is) ∙ ap (λ (k : ℕ). x ∷ drop k xs) one

  pub ended : (xs : List X) (i : ℕ) → length xs ≤ i → drop i xs ≡ []
  ended xs i h = drop_of_length-le xs h

  -- those to come are of the whole
  abbrev pub Whole : List X → ℕ → Type 0
  Whole xs i = (y : Y) → In y (map f (drop i xs)) → In y (map f xs)

  -- what is searched for is to come
  abbrev pub Ahead : (Y → Type 0) → List X → ℕ → Type 0
  Ahead P xs i = (y : Y) → In y (map f xs) → P y → In y (map f (drop i xs))

  pub here : (xs : List X) (i : ℕ) (x : X) → i < length xs → x ≡ get_or xs i x → Whole xs i → In (f x) (map f xs)
  here xs i x h is whole = whole (f x) (subst (λ (l : List X). In (f x) (map f l)) (sym (opened xs i x h is)) (inl refl))

  pub whole_next : (xs : List X) (i : ℕ) (x : X) → i < length xs → x ≡ get_or xs i x → Whole xs i → Whole xs (i + 1)
  whole_next xs i x h is whole y j = whole y (subst (λ (l : List X). In y (map f l)) (sym (opened xs i x h is)) (inr j))

  pub ahead_next : (P : Y → Type 0) (xs : List X) (i : ℕ) (x : X) → i < length xs → x ≡ get_or xs i x → ¬ P (f x) → Ahead P xs i → Ahead P xs (i + 1)
  ahead_next P xs i x h is other ahead y j p =
      ⊎_elim
      (λ (e : y ≡ f x). absurd (other (subst P e p)))
      (λ (k : In y (map f (drop (i + 1) xs))). k)
      (subst (λ (l : List X). In y (map f l)) (opened xs i x h is) (ahead y j p))

  pub ahead_end : (P : Y → Type 0) (xs : List X) (i : ℕ) → length xs ≤ i → Ahead P xs i → (y : Y) → In y (map f xs) → P y → ⊥
  ahead_end P xs i h ahead y j p = subst (λ (l : List X). In y (map f l)) (ended xs i h) (ahead y j p)

-- ---- what a comparison of texts shows

pub known_as_same : (a b c : Text) (r : Bool) → r ≡ bytes_eq a b → r ≡ true → a ≡ c → c ≡ b
known_as_same a b c r is t e = sym e ∙ (bytes_eq-Decides a b).0 (sym is ∙ t)

pub known_apart : (a b c : Text) (r : Bool) → r ≡ bytes_eq a b → r ≡ false → a ≡ c → c ≡ b → ⊥
known_apart a b c r is f e same = let t : ◌≡◌ {A = Bool} false true = sym f ∙ is ∙ (bytes_eq-Decides a b).1 (e ∙ same) in cc

module _ {X Y : Type 0} (f : X → Y) where
  -- what isn't one of these is to come
  abbrev pub Others : (Y → Type 0) → List X → ℕ → Type 0
  Others Q xs i = (y : Y) → In y (map f xs) → Q y ⊎ In y (map f (drop i xs))

  pub others_start : (Q : Y → Type 0) (xs : List X) → Others Q xs 0
  others_start Q xs y j = inr j

  pub others_next : (Q : Y → Type 0) (xs : List X) (i : ℕ) (x : X) → i < length xs → x ≡ get_or xs i x → Q (f x) → Others Q xs i → Others Q xs (i + 1)
  others_next Q xs i x h is one others y j = ⊎_elim
      (λ (q : Q y). inl q)
      (λ (k : In y (map f (drop i xs))). ⊎_elim
      (λ (e : y ≡ f x). inl (subst Q (sym e) one))
      (λ (l : In y (map f (drop (i + 1) xs))). inr l)
      (subst (λ (l : List X). In y (map f l)) (opened f xs i x h is) k))
      (others y j)

  pub others_end : (Q : Y → Type 0) (xs : List X) (i : ℕ) → length xs ≤ i → Others Q xs i → (y : Y) → In y (map f xs) → Q y
  others_end Q xs i h others y j = ⊎_elim (λ (q : Q y). q) (λ (k : In y (map f (drop i xs))). absurd (subst (λ (l : List X). In y (map f l)) (ended f xs i h) k)) (others y j)
