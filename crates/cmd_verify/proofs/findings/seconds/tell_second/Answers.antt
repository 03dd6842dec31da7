use Rattle.std.proofs.Common.{◌∙◌, sym}
use Rattle.cmd_verify.proofs.Neighbours.{alike_none, alike_known}
use Rattle.cmd_verify.proofs.findings.seconds.tell_second.Goals as goal

pub returns-in_default : goal.returns-in_default
returns-in_default c = alike_none c.args.before.now c.args.file.now c.args.found.now.items (λ s some both. c.in_default.not-Some s (c.segment_of.ensures ∙ some))

pub returns-in_ok-push : goal.returns-in_ok-push
returns-in_ok-push c =
    let same = c.is_same_file.ensures.yes c.if-is_same_file.true in
    alike_known c.args.before.now c.args.file.now c.in-Some.segment c.args.found.now.items c.push.new.self.items c.in_ok-second.field-0 (sym c.in-Some.is ∙ c.segment_of.ensures) same.0 same.1 c.in_ok-second.ensures c.in_ok-push.ensures.items

pub returns-else-is_same_file : goal.returns-else-is_same_file
returns-else-is_same_file c = alike_none c.args.before.now c.args.file.now c.args.found.now.items (λ s some both. c.is_same_file.ensures.no c.if-is_same_file.false both)
