-- A list of calls, each with the status that it ended with, and the log that they make.
use Rattle.std.specs.Prelude.{◌≡◌, ℕ, List, [], ◌∷◌}
use Rattle.base_crash_lists.specs.Trace.{Call}

-- From the calls before, the log continues by one act after another, the first of them first.
abbrev pub ArePlayed : {X : Type 0} → (X → ℕ → List Call → List Call → Type 0) → List X → List ℕ → List Call → List Call
    → Type 0
ArePlayed GoesOn [] [] before after = after ≡ before
ArePlayed GoesOn (x ∷ xs) (s ∷ ss) before after = (mid : List Call) × GoesOn x s before mid
    × ArePlayed GoesOn xs ss mid after
ArePlayed GoesOn xs ss before after = ⊥
