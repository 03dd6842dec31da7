use Rattle.std.proofs.Common.{◌≡◌, ◌++◌, drop, map, string_bytes}
use Rattle.std.specs.List.{flat_map}
use Rattle.cmd_trait.specs.Ends.{unknown_line}
use Rattle.cmd_trait.proofs.lines.unknown_lines.Given as goal

-- the lines that are there and those to come are all
abbrev pub invariant-loop-key : goal.invariant-loop-key
invariant-loop-key l = l.text.items ++ flat_map unknown_line (map string_bytes (drop l.key-index l.keys)) ≡ flat_map unknown_line (map string_bytes l.keys)
