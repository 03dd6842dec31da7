use Rattle.std.proofs.Common.{◌≡◌, ◌++◌, map, take}
use Rattle.cmd_info.specs.Reporting.{named}
use Rattle.cmd_info.proofs.command.info.add_names.Given as goal

-- what was there, and the names so far
abbrev pub invariant-loop-segment : goal.invariant-loop-segment
invariant-loop-segment l = l.names.items ≡ l.fn.names.items ++ map (named l.id) (take l.segment-index l.segments)
