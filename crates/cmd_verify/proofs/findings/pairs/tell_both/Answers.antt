use Rattle.std.proofs.Common.{List, sym, subst}
use Rattle.base_model.specs.Names.{copy_of}
use Rattle.cmd_verify.specs.declared.findings.finding.Finding.{Finding}
use Rattle.cmd_verify.specs.declared.findings.pairs.Member.{Member}
use Rattle.cmd_verify.specs.Adding.{Adds}
use Rattle.cmd_verify.specs.Findings.{BothDeviate}
use Rattle.cmd_verify.specs.Members.{MemberSo}
use Rattle.cmd_verify.proofs.Membered.{main_other, copy_other, both_same, both_differ, no_text, apart_of, same_of}
use Rattle.cmd_verify.proofs.findings.pairs.tell_both.Goals as goal

pub returns-in_default : goal.returns-in_default
returns-in_default g c = λ f p q.
    main_other g.I.ReadInfo.IsText g.I.ReadInfo.value f c.args.name.now c.args.found.now.items (no_text g.I.ReadInfo.IsText g.I.ReadInfo.value f c.args.name.now c.args.main.now p c.args.found.now.items c.in_default.not-Good)

pub returns-in_default-copy : goal.returns-in_default-copy
returns-in_default-copy g c = λ f p q.
    copy_other g.I.ReadInfo.IsText g.I.ReadInfo.value f c.args.name.now c.args.found.now.items (no_text g.I.ReadInfo.IsText g.I.ReadInfo.value f (copy_of c.args.name.now) c.args.copy.now q c.args.found.now.items c.in_default-copy.not-Good)

pub returns-in_ok-push : goal.returns-in_ok-push
returns-in_ok-push g c = λ f p q.
    let T = g.I.ReadInfo.IsText in
    let v = g.I.ReadInfo.value in
    let t = c.in_ok-known in
    subst (λ (b : List Finding). Adds (BothDeviate T f c.args.name.now) c.args.found.now.items b) (sym c.in_ok-push.ensures.items)
    (both_differ T v f c.args.name.now c.args.found.now.items c.in-Good.bytes c.in-Good-copy.other c.in-Good.value c.in-Good-copy.value
    (subst (λ (m : Member g.row.I.Denot). MemberSo T v (f c.args.name.now) m) c.in-Good.is p) (subst (λ (m : Member g.row.I.Denot). MemberSo T v (f (copy_of c.args.name.now)) m) c.in-Good-copy.is q)
    (apart_of c.in-Good.bytes.items c.in-Good-copy.other.items c.if-ne.ensures) t.field-0 t.ensures.name t.ensures.kind t.ensures.line)

pub returns-else-ne : goal.returns-else-ne
returns-else-ne g c = λ f p q.
    let T = g.I.ReadInfo.IsText in
    let v = g.I.ReadInfo.value in
    both_same T v f c.args.name.now c.args.found.now.items c.in-Good.bytes c.in-Good-copy.other c.in-Good.value c.in-Good-copy.value
    (subst (λ (m : Member g.row.I.Denot). MemberSo T v (f c.args.name.now) m) c.in-Good.is p) (subst (λ (m : Member g.row.I.Denot). MemberSo T v (f (copy_of c.args.name.now)) m) c.in-Good-copy.is q)
    (same_of c.in-Good.bytes.items c.in-Good-copy.other.items c.if-ne.ensures)
