use Rattle.expire_rules.proofs.Depending.{on_the_way, at_the_end}
use Rattle.expire_rules.proofs.dependents.with_dependents.Goals as goal

pub loop-entry-preserved : goal.loop-entry-preserved
loop-entry-preserved c = on_the_way _ _ _ c.args.entries.now c.loop-entry.entry-index c.entry-item.result c.loop-entry-test.true c.entry-item.is c.loop-entry.invariant c.in_ok-push_dependent.ensures

pub returns : goal.returns
returns c = at_the_end _ _ c.args.entries.now c.loop-entry.entry-index c.loop-entry-test.false c.loop-entry.invariant
