use Rattle.std.proofs.Common.{◌≡◌, ◌++◌, take}
use Rattle.cmd_restore.specs.Targets.{escaped}
use Rattle.cmd_restore.proofs.target_lines.add_escaped.Given as goal

abbrev pub invariant-loop-byte : goal.invariant-loop-byte
invariant-loop-byte l = l.line.items ≡ l.fn.line.items ++ escaped (take l.byte-index l.value)
