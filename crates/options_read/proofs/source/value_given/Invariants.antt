use Rattle.std.proofs.Common.{◌≡◌, drop, map}
use Rattle.options_read.specs.Settings.{value_given}
use Rattle.options_read.specs.Views.{given_view}
use Rattle.options_read.proofs.source.value_given.Given as goal

abbrev pub invariant-loop-g : goal.invariant-loop-g
invariant-loop-g l = value_given (map given_view (drop l.g-index l.given)) l.name ≡ value_given (map given_view l.given) l.name
