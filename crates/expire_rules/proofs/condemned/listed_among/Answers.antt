use Rattle.expire_rules.proofs.Joined.{among_more}
use Rattle.expire_rules.proofs.condemned.listed_among.Goals as goal

pub loop-entry-preserved : goal.loop-entry-preserved
loop-entry-preserved c = among_more c.args.labels.now c.args.entries.now c.loop-entry.entry-index c.entry-item.result _ _ c.loop-entry-test.true c.entry-item.is c.loop-entry.invariant c.in_ok-push_among.ensures
