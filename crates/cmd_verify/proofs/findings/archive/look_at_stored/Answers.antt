use Rattle.std.proofs.Common.{refl, ◌∙◌}
use Rattle.cmd_verify.specs.declared.findings.finding.Mark.{Mark}
use Rattle.cmd_verify.specs.declared.findings.finding.Finding.{Finding}
use Rattle.cmd_verify.proofs.Summed.{unsummed, other_known, other_none}
use Rattle.cmd_verify.proofs.findings.archive.look_at_stored.Goals as goal

pub returns-in_default-clause-adds : goal.returns-in_default-clause-adds
returns-in_default-clause-adds g c = unsummed c.args.file.now c.in_default.is _ c.args.found.now.items

pub returns-in_ok-push-clause-adds : goal.returns-in_ok-push-clause-adds
returns-in_ok-push-clause-adds g c =
    let m : Mark = c.in-Some-2.field-0 in
    let x : Finding = record { name = c.in_ok-name.name; kind = m.kind; line = m.line } in
    other_known c.args.file.now c.in-Some.known c.in-Some.is c.in_ok-lies.lies c.in_ok-kind.field-0 c.in_ok-kind.ensures _ c.args.found.now.items c.push.new.self.items x m c.in-Some-2.is (c.in_ok-name.ensures.ok ∙ c.as_str.ensures.value) refl refl c.in_ok-push.ensures.items c.in_ok-lies.ensures.lies

pub returns-in_default-2-clause-adds : goal.returns-in_default-2-clause-adds
returns-in_default-2-clause-adds g c =
    other_none c.args.file.now c.in-Some.known c.in-Some.is c.in_ok-lies.lies c.in_ok-kind.field-0 c.in_ok-kind.ensures _ c.args.found.now.items c.in_default-2.is c.in_ok-lies.ensures.lies
