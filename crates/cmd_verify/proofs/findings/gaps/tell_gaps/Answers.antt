use Rattle.std.proofs.Common.{◌≡◌, ◌<◌, ◌+◌, refl, sym, ap, ◌∙◌, subst, arith}
use Rattle.base_model.specs.declared.wal.Segment.{Segment}
use Rattle.base_model.specs.ManifestText.{position}
use Rattle.cmd_verify.specs.Adding.{Adds}
use Rattle.cmd_verify.specs.Gaps.{IsGap}
use Rattle.cmd_verify.proofs.Gapped.{below_none, below_next, below_all, lower}
use Rattle.cmd_verify.proofs.findings.gaps.tell_gaps.Goals as goal

pub loop-segment-init : goal.loop-segment-init
loop-segment-init c = record {
  of_log = c.requires.start.1;
  timeline = refl;
  low = omega arith;
  high = c.requires.order;
  adds = below_none c.args.name.now c.args.stored.now c.args.wal.now.size.0 c.args.wal.now.span c.args.found.now.items;
}

pub loop-segment-preserved : goal.loop-segment-preserved
loop-segment-preserved c =
    let i = c.loop-segment.invariant in
    let size = c.args.wal.now.size.0 in
    let span = c.args.wal.now.span in
    let s = c.loop-segment.segment in
    let n = c.in-Some.ensures.next in
    let less : position size s < position size span.stop = lower c.args.name.now c.args.stored.now size span s i.of_log i.timeline i.low i.high c.requires.stop.1 c.requires.timeline (c.is_same.ensures.no c.loop-segment-test.true) in
    let place : position size c.in-Some.following ≡ position size s + 1 = n.place in
    record {
      of_log = n.of_log;
      timeline = n.timeline ∙ i.timeline;
      low = omega (arith, place, i.low);
      high = omega (arith, place, less);
      adds = below_next c.args.name.now c.args.stored.now size span s i.of_log i.timeline i.low i.high (position size c.in-Some.following) place c.args.found.now.items c.loop-segment.found.items c.tell_gap.new.found.items i.adds c.in_ok-tell_gap.ensures;
    }

pub returns : goal.returns
returns c =
    let i = c.loop-segment.invariant in
    let size = c.args.wal.now.size.0 in
    let span = c.args.wal.now.span in
    let s = c.loop-segment.segment in
    let same : s ≡ span.stop = c.is_same.ensures.yes c.loop-segment-test.false in
    let at = c.args.name.now in
    let stored = c.args.stored.now in
    let k : position size span.stop + 1 ≡ position size s + 1 = ap (λ (t : Segment). position size t + 1) (sym same) in
    below_all at stored size span (position size span.stop + 1) refl c.args.found.now.items c.tell_gap-2.new.found.items
    (below_next at stored size span s i.of_log i.timeline i.low i.high (position size span.stop + 1) k c.args.found.now.items c.loop-segment.found.items c.tell_gap-2.new.found.items i.adds
    (subst (λ (t : Segment). Adds (IsGap at stored t) c.loop-segment.found.items c.tell_gap-2.new.found.items) (sym same) c.in_ok-tell_gap-2.ensures))
