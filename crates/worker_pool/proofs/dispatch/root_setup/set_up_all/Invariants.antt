use Rattle.std.proofs.Common.{◌≡◌, [], map, length}
use Rattle.worker_pool.specs.Run.{Left}
use Rattle.worker_pool.proofs.dispatch.root_setup.set_up_all.Given as goal

abbrev pub invariant-loop-link : goal.invariant-loop-link
invariant-loop-link g l = record {
  left : Left [] (map g.L.Link.link_state l.yielded) l.fn.pool.lost.items l.pool.lost.items (map g.L.Link.link_state l.pool.links.items);
  place : l.place ≡ length l.yielded;
}
