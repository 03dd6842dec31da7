use Rattle.std.proofs.Common.{◌≡◌, drop, bytes_eq}
use Rattle.std.specs.List.{list_any}
use Rattle.repo_keys.specs.Foreign.{names_of}
use Rattle.repo_keys.proofs.foreign_sections.is_among.Given as goal

-- the name is among those to come exactly where it is among all
abbrev pub invariant-loop-n : goal.invariant-loop-n
invariant-loop-n l = list_any (λ n. bytes_eq n l.name) (names_of (drop l.n-index l.names)) ≡ list_any (λ n. bytes_eq n l.name) (names_of l.names)
