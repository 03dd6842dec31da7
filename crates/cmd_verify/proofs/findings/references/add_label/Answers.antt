use Rattle.std.proofs.Common.{List, subst}
use Rattle.base_model.specs.declared.labels.Label.{Label}
use Rattle.base_model.specs.Text.{In}
use Rattle.cmd_verify.proofs.Referring.{one_more, there_already}
use Rattle.cmd_verify.proofs.findings.references.add_label.Goals as goal

pub returns-in_ok-push : goal.returns-in_ok-push
returns-in_ok-push c = λ l. one_more c.args.labels.now.items c.push.new.self.items c.args.label l c.in_ok-push.ensures.items

pub returns-else-not-is_among : goal.returns-else-not-is_among
returns-else-not-is_among c = λ l. there_already c.args.labels.now.items c.args.label l (subst (λ (ls : List Label). In c.args.label ls) c.deref.ensures.value (c.is_among.ensures.yes c.if-not-is_among.false))
