use Rattle.std.proofs.Common.{◌≡◌, ◌++◌, drop, map}
use Rattle.std.specs.List.{flat_map}
use Rattle.test_standin.specs.Answers.{column, each}
use Rattle.test_standin.proofs.answers.heading.Given as goal

-- the descriptions that are there and those to come are all
abbrev pub invariant-loop-text : goal.invariant-loop-text
invariant-loop-text l = l.bytes.items ++ flat_map column (map (λ t. t.now) (drop l.text-index l.texts)) ≡ each column (map (λ t. t.now) l.texts)
