use Rattle.std.proofs.Common.{[], ◌∷◌, ◌++◌, arith, sym}
use Rattle.cmd_rehearse.proofs.Taken.{ready_none, ready_prefix, ready_last, ready_push, ready_same}
use Rattle.cmd_rehearse.proofs.links.take_links.Goals as goal

pub loop-got-init : goal.loop-got-init
loop-got-init g c = record {
  taken = ready_same g.L.Link.link_state c.new-taken.result.items [] c.new-taken.ensures.items ready_none;
  count = omega (arith, c.new-taken.ensures.len);
  left = c.requires;
}

pub loop-got-preserved : goal.loop-got-preserved
loop-got-preserved g c =
    let f = g.L.Link.link_state in
    let all = ready_same f (c.pop.new.self.items ++ c.in-Some.link ∷ []) c.loop-got.links.items (sym c.in-Some.ensures.items) c.loop-got.invariant.left in
    record {
      taken = ready_same f c.push.new.self.items (c.loop-got.taken.items ++ c.in-Some.link ∷ []) c.in_ok-push.ensures.items
          (ready_push f c.loop-got.taken.items c.in-Some.link c.loop-got.invariant.taken (ready_last f c.pop.new.self.items c.in-Some.link all));
      count = omega (arith, c.loop-got.invariant.count, c.in_ok-push.ensures.len);
      left = ready_prefix f c.pop.new.self.items c.in-Some.link all;
    }

pub returns-in_err-push-clause-left : goal.returns-in_err-push-clause-left
returns-in_err-push-clause-left g c =
    let f = g.L.Link.link_state in
    let all = ready_same f (c.pop.new.self.items ++ c.in-Some.link ∷ []) c.loop-got.links.items (sym c.in-Some.ensures.items) c.loop-got.invariant.left in
    ready_prefix f c.pop.new.self.items c.in-Some.link all
