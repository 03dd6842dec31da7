use Rattle.std.proofs.Common.{◌≡◌, drop, map, string_bytes, bytes_eq}
use Rattle.std.specs.List.{list_any}
use Rattle.options_read.specs.Words.{is_given}
use Rattle.options_read.specs.Views.{given_view}
use Rattle.options_read.proofs.arguments.is_given.Given as goal

abbrev pub invariant-loop-g : goal.invariant-loop-g
invariant-loop-g l = list_any (λ g. bytes_eq (string_bytes g.name) l.name) (drop l.g-index l.given) ≡ is_given (map given_view l.given) l.name
