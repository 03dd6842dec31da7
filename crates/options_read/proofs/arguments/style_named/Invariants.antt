use Rattle.std.proofs.Common.{◌≡◌, drop}
use Rattle.options_read.specs.Words.{style_named}
use Rattle.options_read.proofs.arguments.style_named.Given as goal

abbrev pub invariant-loop-option : goal.invariant-loop-option
invariant-loop-option l = style_named (drop l.option-index l.table) l.name ≡ style_named l.table l.name
