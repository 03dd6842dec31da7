use Rattle.std.proofs.Common.{◌≤◌, map, vec_len}
use Rattle.worker_pool.specs.Run.{AreReady}
use Rattle.cmd_rehearse.proofs.links.take_links.Given as goal

abbrev pub invariant-loop-got : goal.invariant-loop-got
invariant-loop-got g l = record {
  taken : AreReady (map g.L.Link.link_state l.taken.items);
  count : vec_len l.taken ≤ l._got;
  left : AreReady (map g.L.Link.link_state l.links.items);
}
