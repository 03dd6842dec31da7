use Rattle.std.proofs.Common.{◌≡◌, drop}
use Rattle.options_read.specs.Settings.{none_lacking}
use Rattle.options_read.specs.Sources.{source_view}
use Rattle.options_read.proofs.rules.none_lacking.Given as goal

abbrev pub invariant-loop-option : goal.invariant-loop-option
invariant-loop-option l = none_lacking (source_view l.source) (drop l.option-index l.table) ≡ none_lacking (source_view l.source) l.table
