-- A list of calls continues at its end.
use Rattle.std.proofs.Common.{ℕ, List, [], ◌∷◌, ◌++◌, refl, subst}
use Rattle.base_crash_lists.specs.Trace.{Call}
use Rattle.base_crash_lists.specs.Played.{ArePlayed}

pub played_more : {X : Type 0} (GoesOn : X → ℕ → List Call → List Call → Type 0) (xs : List X) (ss : List ℕ) (x : X) (s : ℕ) (before mid after : List Call) →
    ArePlayed GoesOn xs ss before mid → GoesOn x s mid after → ArePlayed GoesOn (xs ++ x ∷ []) (ss ++ s ∷ []) before after
played_more GoesOn [] [] x s before mid after p g = (after, subst (λ (l : List Call). GoesOn x s l after) p g, refl)
played_more GoesOn [] (t ∷ ss) x s before mid after p g = absurd p
played_more GoesOn (y ∷ xs) [] x s before mid after p g = absurd p
played_more GoesOn (y ∷ xs) (t ∷ ss) x s before mid after p g = (p.0, p.1, played_more GoesOn xs ss x s p.0 mid after p.2 g)
