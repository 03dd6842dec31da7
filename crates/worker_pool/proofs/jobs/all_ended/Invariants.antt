use Rattle.std.proofs.Common.{◌≡◌, ℕ, ◌<◌, Some, slice_get}
use Rattle.worker_pool.specs.declared.jobs.JobPlace.TheVariants.{Ended}
use Rattle.worker_pool.proofs.jobs.all_ended.Given as goal

abbrev pub invariant-loop-i : goal.invariant-loop-i
invariant-loop-i l = (k : ℕ) → k < l.i → slice_get l.places.items k ≡ Some Ended
