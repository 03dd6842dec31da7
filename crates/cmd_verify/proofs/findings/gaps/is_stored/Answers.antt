use Rattle.std.proofs.Common.{get_or, subst, sym}
use Rattle.std.proofs.lemmas.List.{get_or_default}
use Rattle.base_model.specs.declared.wal.Segment.{Segment}
use Rattle.base_model.specs.Text.{In}
use Rattle.cmd_verify.proofs.Adding.{at_place, none_more}
use Rattle.cmd_verify.proofs.findings.gaps.is_stored.Goals as goal

abbrev none : Segment
none = record { timeline = 0; log = 0; seg = 0 }

pub loop-other-preserved : goal.loop-other-preserved
loop-other-preserved c =
    let l = c.loop-other in
    let x = get_or c.args.stored.now l.other-index none in
    none_more c.args.stored.now l.other-index c.args.segment.now x c.loop-other-test.true (get_or_default c.args.stored.now l.other-index none x c.loop-other-test.true) l.invariant (c.is_same.ensures.no c.if-is_same.false)

pub returns-then-is_same-clause-yes : goal.returns-then-is_same-clause-yes
returns-then-is_same-clause-yes c = λ _.
    let l = c.loop-other in
    let x = get_or c.args.stored.now l.other-index none in
    subst (λ (y : Segment). In y c.args.stored.now) (sym (c.is_same.ensures.yes c.if-is_same.true)) (at_place c.args.stored.now l.other-index x c.loop-other-test.true (get_or_default c.args.stored.now l.other-index none x c.loop-other-test.true))
