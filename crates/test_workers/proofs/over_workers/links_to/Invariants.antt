use Rattle.std.proofs.Common.{◌≡◌, length}
use Rattle.std.specs.List.{AllByRecursion}
use Rattle.memory_workers.specs.Workers.{state_of}
use Rattle.worker_pool.specs.Run.{IsReady}
use Rattle.test_workers.proofs.over_workers.links_to.Given as goal

abbrev pub invariant-loop-fail : goal.invariant-loop-fail
invariant-loop-fail l = AllByRecursion (λ m. IsReady (state_of m)) l.links.items × (length l.links.items ≡ l.fail-index)
