use Rattle.std.proofs.Common.{◌≤◌, length}
use Rattle.pgbackrest.proofs.workers.Given as goal

-- no more than this many so far
abbrev pub invariant-loop-number : goal.invariant-loop-number
invariant-loop-number l = length l.links.items ≤ l.number
