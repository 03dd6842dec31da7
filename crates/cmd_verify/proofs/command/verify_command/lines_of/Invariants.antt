use Rattle.std.proofs.Common.{◌≡◌, ◌++◌, drop, string_bytes}
use Rattle.std.specs.List.{flat_map}
use Rattle.cmd_verify.specs.Verifying.{finding_line}
use Rattle.cmd_verify.proofs.command.verify_command.lines_of.Given as goal

-- the lines that are there and those to come are all
abbrev pub invariant-loop-finding : goal.invariant-loop-finding
invariant-loop-finding l = string_bytes l.lines ++ flat_map finding_line (drop l.finding-index l.found) ≡ flat_map finding_line l.found
