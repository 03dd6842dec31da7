-- How many bytes lie before each item of a job. Own.
use Rattle.std.specs.Prelude.{◌+◌, ℕ, List, [], ◌∷◌}
use Rattle.backup_sink.specs.declared.keeper.EndedItem.{EndedItem}

-- with this many before the first
abbrev pub sums : ℕ → List EndedItem → List ℕ
sums n [] = []
sums n (e ∷ es) = n ∷ sums (n + e.count) es
