-- What a listing shows.
use Rattle.std.proofs.Common.{ℕ, zero, suc, ◌≡◌, ◌<◌, inl, inr, sym, arith, List, [], ◌∷◌, length, get_or, Contains}
use Rattle.base_model.specs.Text.{In}

pub in_contains : {X : Type 0} (xs : List X) (x : X) → In x xs → Contains xs x
in_contains [] x i = absurd i
in_contains (y ∷ ys) x (inl is) = (0, omega arith, sym is)
in_contains (y ∷ ys) x (inr i) = let k = in_contains ys x i in (suc k.0, omega (arith, k.1), k.2)

pub contains_in : {X : Type 0} (xs : List X) (x : X) → Contains xs x → In x xs
contains_in {X} xs x has = go xs has.0 has.1 has.2
  where
    go : (ys : List X) (k : ℕ) → k < length ys → get_or ys k x ≡ x → In x ys
    go [] k lt is = absurd (omega (arith, lt))
    go (y ∷ ys) zero lt is = inl (sym is)
    go (y ∷ ys) (suc k) lt is = inr (go ys k (omega (arith, lt)) is)
