use Rattle.std.proofs.Common.{◌≡◌, length}
use Rattle.worker_pool.proofs.dispatch.jobs.start_all.Given as goal

abbrev pub invariant-loop : goal.invariant-loop
invariant-loop l = length l.receivings.items ≡ l.counter
