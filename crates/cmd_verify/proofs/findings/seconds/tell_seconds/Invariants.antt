use Rattle.std.proofs.Common.{◌≤◌}
use Rattle.cmd_verify.specs.Adding.{Adds}
use Rattle.cmd_verify.specs.Archived.{SecondsBelow}
use Rattle.cmd_verify.proofs.findings.seconds.tell_seconds.Given as goal

abbrev pub invariant-loop-i : goal.invariant-loop-i
invariant-loop-i l = record {
  place : 1 ≤ l.i;
  adds : Adds (SecondsBelow l.files l.i) l.fn.found.items l.found.items;
}
