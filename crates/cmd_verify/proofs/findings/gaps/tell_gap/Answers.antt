use Rattle.cmd_verify.proofs.Gapped.{gap_known, gap_none}
use Rattle.cmd_verify.proofs.findings.gaps.tell_gap.Goals as goal

pub returns-in_ok-push : goal.returns-in_ok-push
returns-in_ok-push c = gap_known c.args.name.now c.args.stored.now c.args.segment.now c.args.found.now.items c.push.new.self.items c.in_ok-gap.field-0 (c.is_stored.ensures.no c.if-not-is_stored.true) c.in_ok-gap.ensures c.in_ok-push.ensures.items

pub returns-else-not-is_stored : goal.returns-else-not-is_stored
returns-else-not-is_stored c = gap_none c.args.name.now c.args.stored.now c.args.segment.now c.args.found.now.items (c.is_stored.ensures.yes c.if-not-is_stored.false)
