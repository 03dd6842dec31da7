use Rattle.std.proofs.Common.{◌≡◌, ◌++◌, drop, map}
use Rattle.options_read.specs.Settings.{all_given}
use Rattle.options_read.specs.Views.{given_view}
use Rattle.options_read.proofs.source.all_given.Given as goal

abbrev pub invariant-loop-g : goal.invariant-loop-g
invariant-loop-g l = map (λ t. t.now) l.values.items ++ all_given (map given_view (drop l.g-index l.given)) l.name ≡ all_given (map given_view l.given) l.name
