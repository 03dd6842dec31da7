use Rattle.std.proofs.Common.{◌≡◌, rules}
use Rattle.cmd_verify.proofs.Gapped.{segment_more}
use Rattle.cmd_verify.proofs.findings.gaps.add_segment.Goals as goal

pub returns-in_ok-push : goal.returns-in_ok-push
returns-in_ok-push c =
    let same : c.args.file.now.id ≡ c.args.id = search rules in
    segment_more c.args.stored.now.items c.push.new.self.items c.in-Segment.segment c.args.file.now c.args.id c.args.span.now c.in_ok-push.ensures.items c.in-Segment.is same (c.is_near.ensures.yes c.if-is_near.true)
