use Rattle.expire_rules.proofs.Counted.{counted_more}
use Rattle.expire_rules.proofs.counted_spans.spans_that.Goals as goal

pub loop-entry-preserved : goal.loop-entry-preserved
loop-entry-preserved c = counted_more c.args.kind c.args.number c.args.entries.now c.loop-entry.entry-index c.entry-item.result _ _ _ c.loop-entry-test.true c.entry-item.is c.loop-entry.invariant c.span_of.ensures c.in_ok-push_some.ensures
