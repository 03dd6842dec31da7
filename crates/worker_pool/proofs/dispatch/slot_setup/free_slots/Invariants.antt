use Rattle.std.proofs.Common.{◌≡◌, ◌++◌}
use Rattle.worker_pool.specs.Run.{somes}
use Rattle.worker_pool.proofs.dispatch.slot_setup.free_slots.Given as goal

abbrev pub invariant-loop-slot : goal.invariant-loop-slot
invariant-loop-slot g l = l.links.items ≡ l.fn.links.items ++ somes l.yielded
