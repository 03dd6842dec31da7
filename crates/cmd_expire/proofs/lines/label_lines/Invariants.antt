use Rattle.std.proofs.Common.{◌≡◌, ◌++◌, drop, flat_map, string_bytes}
use Rattle.cmd_expire.specs.Texts.{label_line}
use Rattle.cmd_expire.proofs.lines.label_lines.Given as goal

-- the lines that are there and those to come are the whole
abbrev pub invariant-loop-label : goal.invariant-loop-label
invariant-loop-label l = string_bytes l.lines ++ flat_map label_line (drop l.label-index l.labels) ≡ flat_map label_line l.labels
