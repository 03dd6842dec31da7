use Rattle.std.proofs.Common.{◌≡◌, arith}
use Rattle.restore_target.proofs.Fields.{one_timeline}
use Rattle.restore_target.proofs.history.next_ancestor.Goals as goal
use Rattle.restore_target.proofs.history.next_ancestor.Goals.{then-timeline-from-via-then-timeline-from, then-timeline-from-via-else-timeline-from+then-timeline-from-2}

pub returns-in_err-timeline-clause-none : goal.returns-in_err-timeline-clause-none
returns-in_err-timeline-clause-none c =
    rw c.from_residual.ensures (λ a n. c.in_err-timeline.ensures.none a.timeline a.until.0 (omega (arith, n.below, c.ranges.own.fits)) n.tells)

pub returns-then-timeline-from-clause-none : goal.returns-then-timeline-from-clause-none
returns-then-timeline-from-clause-none c = λ a n.
    let same : a.timeline ≡ c.in_ok-timeline.timeline = one_timeline c.args.line.now a.timeline c.in_ok-timeline.timeline _ _ (omega (arith, n.below, c.ranges.own.fits)) (omega arith) n.tells c.in_ok-timeline.ensures.value in
    elim c.then-timeline-from.branch [
      | then-timeline-from-via-then-timeline-from w ↦ omega (arith, same, n.later, w.if-timeline-from.true, c.from.ensures)
      | then-timeline-from-via-else-timeline-from+then-timeline-from-2 w ↦ omega (arith, same, n.below, w.if-timeline-from-2.true, w.from-else-timeline-from.ensures)
    ]
