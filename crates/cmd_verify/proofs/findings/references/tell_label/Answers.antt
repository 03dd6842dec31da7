use Rattle.cmd_verify.proofs.Referring.{label_known, label_clean}
use Rattle.cmd_verify.proofs.findings.references.tell_label.Goals as goal

pub returns-in_ok-push : goal.returns-in_ok-push
returns-in_ok-push c =
    label_known c.args.name.now c.args.listed.now c.args.label.now c.args.found.now.items c.push.new.self.items c.in_ok-unlisted.field-0 (c.is_among.ensures.no c.if-not-is_among.true) c.in_ok-unlisted.ensures c.in_ok-push.ensures.items

pub returns-else-not-is_among : goal.returns-else-not-is_among
returns-else-not-is_among c = label_clean c.args.name.now c.args.listed.now c.args.label.now c.args.found.now.items (c.is_among.ensures.yes c.if-not-is_among.false)
