use Rattle.std.proofs.Common.{◌≡◌, ◌++◌, map, take, string_bytes}
use Rattle.cmd_restore.specs.Targets.{lines_in, own_setting}
use Rattle.cmd_restore.proofs.target_lines.add_own.Given as goal

abbrev pub invariant-loop-text : goal.invariant-loop-text
invariant-loop-text l = lines_in l.lines ≡ lines_in l.fn.lines ++ map own_setting (map string_bytes (take l.text-index l.own))
