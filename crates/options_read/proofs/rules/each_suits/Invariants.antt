use Rattle.std.proofs.Common.{◌≡◌, drop, map}
use Rattle.options_read.specs.Settings.{each_suits}
use Rattle.options_read.specs.Sources.{source_view}
use Rattle.options_read.specs.Views.{given_view}
use Rattle.options_read.proofs.rules.each_suits.Given as goal

abbrev pub invariant-loop-g : goal.invariant-loop-g
invariant-loop-g l = each_suits (source_view l.source) l.table (map given_view (drop l.g-index l.source.given.items)) ≡ each_suits (source_view l.source) l.table (map given_view l.source.given.items)
