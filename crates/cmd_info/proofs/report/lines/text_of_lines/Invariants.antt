use Rattle.std.proofs.Common.{◌≡◌, ◌++◌, map, drop, string_bytes}
use Rattle.cmd_info.specs.Lines.{text_of_lines}
use Rattle.cmd_info.proofs.report.lines.text_of_lines.Given as goal

-- the text that is there and that to come are the whole
abbrev pub invariant-loop-line : goal.invariant-loop-line
invariant-loop-line l = string_bytes l.text ++ text_of_lines (map string_bytes (drop l.line-index l.lines)) ≡ text_of_lines (map string_bytes l.lines)
