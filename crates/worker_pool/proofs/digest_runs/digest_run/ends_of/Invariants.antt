use Rattle.std.proofs.Common.{◌≡◌, map, take}
use Rattle.worker_pool.specs.Holdings.{state_of}
use Rattle.worker_pool.specs.Digests.{end_of}
use Rattle.worker_pool.proofs.digest_runs.digest_run.ends_of.Given as goal

abbrev pub invariant-loop-job : goal.invariant-loop-job
invariant-loop-job l = l.ends.items ≡ map end_of (take l.job (state_of l.keep).kept)
