use Rattle.std.proofs.Common.{◌≡◌, map, Some, []}
use Rattle.worker_pool.proofs.dispatch.slot_setup.slot_all.Given as goal

abbrev pub invariant-loop-link : goal.invariant-loop-link
invariant-loop-link g l = record {
  taken : l.links.items ≡ [];
  slots : l.slots.items ≡ map Some l.yielded;
}
