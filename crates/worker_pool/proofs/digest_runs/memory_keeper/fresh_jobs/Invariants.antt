use Rattle.std.proofs.Common.{◌≡◌, length, All}
use Rattle.worker_pool.specs.Holdings.{IsEmpty}
use Rattle.worker_pool.proofs.digest_runs.memory_keeper.fresh_jobs.Given as goal

abbrev pub invariant-loop : goal.invariant-loop
invariant-loop l = (length l.jobs.items ≡ l.counter) × All IsEmpty l.jobs.items
