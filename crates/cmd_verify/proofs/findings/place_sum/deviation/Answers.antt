use Rattle.std.proofs.Common.{◌≢◌, refl, subst, rules}
use Rattle.cmd_verify.specs.declared.findings.finding.FindingKind.TheVariants as kinds
use Rattle.cmd_verify.specs.declared.findings.finding.Mark.{Mark}
use Rattle.cmd_verify.specs.declared.findings.place_sum.Lies.{Lies}
use Rattle.cmd_verify.specs.Lies.{LiesSo}
use Rattle.cmd_verify.proofs.Judged.{shows_absent, shows_short, shows_digest}
use Rattle.cmd_verify.proofs.findings.place_sum.deviation.Goals as goal

pub returns-in_ok-from_str-in-Nothing : goal.returns-in_ok-from_str-in-Nothing
returns-in_ok-from_str-in-Nothing c = λ v at lies.
    let m : Mark = record { kind = kinds.Absent; line = c.in_ok-from_str-in-Nothing.field-0 } in
    shows_absent at c.args.size c.args.sum.now.0 m v (subst (λ (l : Lies). LiesSo v at c.args.size l) c.in-Nothing.is lies) refl c.in_ok-from_str-in-Nothing.ensures.ok

pub returns-in_ok-short_line-in-Few : goal.returns-in_ok-short_line-in-Few
returns-in_ok-short_line-in-Few c = λ v at lies.
    let m : Mark = record { kind = kinds.Short; line = c.in_ok-short_line-in-Few.field-0 } in
    shows_short at c.args.size c.args.sum.now.0 m v c.in-Few.found (subst (λ (l : Lies). LiesSo v at c.args.size l) c.in-Few.is lies) refl c.in_ok-short_line-in-Few.ensures

pub returns-in_ok-digest_line-in-All : goal.returns-in_ok-digest_line-in-All
returns-in_ok-digest_line-in-All c = λ v at lies.
    let m : Mark = record { kind = kinds.Digest; line = c.in_ok-digest_line-in-All.field-0 } in
    let other : c.in-All.found.0 ≢ c.args.sum.now.0 = search rules in
    shows_digest at c.args.size c.args.sum.now.0 m v c.in-All.found (subst (λ (l : Lies). LiesSo v at c.args.size l) c.in-All.is lies) other refl c.in_ok-digest_line-in-All.ensures
