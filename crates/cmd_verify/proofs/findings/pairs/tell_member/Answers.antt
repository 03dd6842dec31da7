use Rattle.std.proofs.Common.{List, sym, subst}
use Rattle.cmd_verify.specs.declared.findings.finding.Finding.{Finding}
use Rattle.cmd_verify.specs.Adding.{Adds}
use Rattle.cmd_verify.specs.Findings.{MemberDeviates}
use Rattle.cmd_verify.proofs.Membered.{absent_adds, bad_adds, good_adds}
use Rattle.cmd_verify.proofs.findings.pairs.tell_member.Goals as goal

pub returns-in_ok-push-in-Absent : goal.returns-in_ok-push-in-Absent
returns-in_ok-push-in-Absent g c = λ f so.
    let t = c.in_ok-known-in-Absent in
    subst (λ (b : List Finding). Adds (MemberDeviates g.I.ReadInfo.IsText f c.args.name.now) c.args.found.now.items b) (sym c.in_ok-push-in-Absent.ensures.items)
    (absent_adds g.I.ReadInfo.IsText g.I.ReadInfo.value f c.args.name.now c.args.member.now so c.args.found.now.items c.in-Absent.is t.field-0 t.ensures.name t.ensures.kind t.ensures.line)

pub returns-in_ok-push-in-Bad : goal.returns-in_ok-push-in-Bad
returns-in_ok-push-in-Bad g c = λ f so.
    let t = c.in_ok-known-in-Bad in
    subst (λ (b : List Finding). Adds (MemberDeviates g.I.ReadInfo.IsText f c.args.name.now) c.args.found.now.items b) (sym c.in_ok-push-in-Bad.ensures.items)
    (bad_adds g.I.ReadInfo.IsText g.I.ReadInfo.value f c.args.name.now c.args.member.now so c.args.found.now.items c.in-Bad.is t.field-0 t.ensures.name t.ensures.kind t.ensures.line)

pub returns-in-Good : goal.returns-in-Good
returns-in-Good g c = λ f so. good_adds g.I.ReadInfo.IsText g.I.ReadInfo.value f c.args.name.now c.args.member.now so c.args.found.now.items _ _ c.in-Good.is
