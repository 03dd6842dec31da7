use Rattle.std.proofs.Common.{◌≡◌, drop, map}
use Rattle.options_read.specs.Settings.{each_is_for}
use Rattle.options_read.specs.Views.{given_view}
use Rattle.options_read.proofs.rules.each_is_for.Given as goal

abbrev pub invariant-loop-g : goal.invariant-loop-g
invariant-loop-g l = each_is_for l.table l.verb (map given_view (drop l.g-index l.given)) ≡ each_is_for l.table l.verb (map given_view l.given)
