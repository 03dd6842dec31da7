-- What a stream gives.
use Rattle.std.specs.Prelude.{◌≡◌, ℕ, List, [], ◌++◌, Option, option_map, IfSome}

-- what was left is these bytes and what is left now, where that is known
abbrev pub Gives : Option (List ℕ) → List ℕ → Option (List ℕ) → Type 0
Gives old given new = option_map (λ (rest : List ℕ). given ++ rest) new ≡ old

-- nothing is left, where that is known
abbrev pub IsOver : Option (List ℕ) → Type 0
IsOver left = IfSome left (λ (rest : List ℕ). rest ≡ [])
