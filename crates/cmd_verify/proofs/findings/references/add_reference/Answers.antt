use Rattle.cmd_verify.proofs.Referring.{by_reference, no_reference}
use Rattle.cmd_verify.proofs.findings.references.add_reference.Goals as goal

pub returns-in_ok-add_label : goal.returns-in_ok-add_label
returns-in_ok-add_label c = λ l. by_reference c.args.file.now.reference c.in-Some.label c.in-Some.is c.args.labels.now.items c.add_label.new.labels.items l (c.in_ok-add_label.ensures l)

pub returns-in_default : goal.returns-in_default
returns-in_default c = λ l. no_reference c.args.file.now.reference c.in_default.is c.args.labels.now.items l
