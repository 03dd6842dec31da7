use Rattle.std.proofs.Common.{◌≡◌, ◌++◌, drop}
use Rattle.cmd_types.specs.StagesTexts.{shown}
use Rattle.cmd_types.proofs.stages.texts.push_shown.Given as goal

-- what is there and what is to come are the whole
abbrev pub invariant-loop-byte : goal.invariant-loop-byte
invariant-loop-byte l = l.line.items ++ shown (drop l.byte-index l.word) ≡ l.fn.line.items ++ shown l.word
