use Rattle.std.proofs.Common.{sym, subst, map, List, Option}
use Rattle.worker_protocol.specs.declared.sinks.ItemEnd.{ItemEnd}
use Rattle.restore_make.specs.Digested.{AreEnds}
use Rattle.restore_make.proofs.Marks.{ends_long}
use Rattle.restore_make.proofs.kept_files.mark_alike.Goals as goal

pub mark-requires-clause-ends : goal.mark-requires-clause-ends
mark-requires-clause-ends g c = ends_long (map g.L.Link.link_state c.args.pool.now.links.items) c.args.candidates.now c.deref.result.now
    (subst (λ (ends : List (Option ItemEnd)). AreEnds (map g.L.Link.link_state c.args.pool.now.links.items) c.args.candidates.now ends) (sym c.deref.ensures.value) c.in_ok-ends.ensures.ends)

pub returns-clause-marked : goal.returns-clause-marked
returns-clause-marked g c = record {
  ends = c.deref.result.now;
  known = subst (λ (ends : List (Option ItemEnd)). AreEnds (map g.L.Link.link_state c.args.pool.now.links.items) c.args.candidates.now ends) (sym c.deref.ensures.value) c.in_ok-ends.ensures.ends;
  by = c.in_ok-mark.ensures.by;
  all = c.in_ok-mark.ensures.all;
}
