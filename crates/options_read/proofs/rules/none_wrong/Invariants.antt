use Rattle.std.proofs.Common.{◌≡◌, drop}
use Rattle.options_read.specs.Settings.{none_wrong}
use Rattle.options_read.specs.Sources.{source_view}
use Rattle.options_read.proofs.rules.none_wrong.Given as goal

abbrev pub invariant-loop-option : goal.invariant-loop-option
invariant-loop-option l = none_wrong (source_view l.source) (drop l.option-index l.table) ≡ none_wrong (source_view l.source) l.table
