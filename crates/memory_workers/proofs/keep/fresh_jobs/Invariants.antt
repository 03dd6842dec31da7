use Rattle.std.proofs.Common.{◌≡◌, length, All}
use Rattle.memory_workers.specs.Keeps.{IsEmpty}
use Rattle.memory_workers.proofs.keep.fresh_jobs.Given as goal

abbrev pub invariant-loop : goal.invariant-loop
invariant-loop l = (length l.jobs.items ≡ l.counter) × All IsEmpty l.jobs.items
