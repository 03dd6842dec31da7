use Rattle.archive_spool.proofs.Cleared.{receipts_more}
use Rattle.archive_spool.proofs.stale_marks.receipts_of.Goals as goal

pub loop-each-preserved : goal.loop-each-preserved
loop-each-preserved c =
    receipts_more c.args.stanza.now c.args.ready.now c.loop-each.each-index _ c.loop-each.names.items _ _ c.loop-each-test.true c.loop-each.invariant c.in_ok-receipt_name.ensures c.in_ok-push.ensures.items
