use Rattle.std.proofs.Math.Nat.{le_refl}
use Rattle.std.proofs.Common.{refl, sym, subst, Result, Ok, Err, Option}
use Rattle.std.specs.Prelude.{IfOk}
use Rattle.base_devices.specs.Content.{Content}
use Rattle.base_crash_lists.proofs.Stays.{rests_beside, beside_on}
use Rattle.cmd_types.specs.declared.stages.halt.Halt.{Halt}
use Rattle.cmd_types.specs.declared.stages.outcome.Outcome.{Outcome}
use Rattle.cmd_types.specs.Halts.{HaltCause}
use Rattle.cmd_backup_common.proofs.Beginnings.{halt_as, ends_with}
use Rattle.cmd_rehearse.specs.declared.fault.StepFault.{StepFault}
use Rattle.cmd_rehearse.specs.declared.cluster_life.Lived.{Lived}
use Rattle.cmd_rehearse.specs.Advancing.{Carries}
use Rattle.cmd_rehearse.specs.Causes.{StepCause, PrefixCause, Fails, FailsBoth, Whole}
use Rattle.cmd_rehearse.specs.Commands.{rehearsed, keeps_one}
use Rattle.cmd_rehearse.specs.Rehearsing.{count_of, IsEnded, IsRehearsed}
use Rattle.cmd_rehearse.proofs.Advanced.{carries_still, carries_err}
use Rattle.cmd_rehearse.proofs.Ends.{examined_known}
use Rattle.cmd_rehearse.proofs.Failing.{Within, both_in}
use Rattle.cmd_rehearse.proofs.Prefixes.{end_cause}
use Rattle.cmd_rehearse.proofs.Pushes.{err_as}
use Rattle.cmd_rehearse.proofs.rehearsal.go.Goals as goal

pub tell-requires-clause-known : goal.tell-requires-clause-known
tell-requires-clause-known g c = examined_known c.args.order.now.stanza.now (g.D.Disk.state c.live.new.repo).view.now c.in_ok-ended.ended.found c.in_ok-ended.ensures.ended.comes.examined

pub returns-in_err-lived-clause-lives : goal.returns-in_err-lived-clause-lives
returns-in_err-lived-clause-lives g c =
    let a = (g.D.Disk.state c.args.repo.now).view in
    let m = (g.D.Disk.state c.live.new.repo).view in
    let x = c.in_err-lived.ensures.lives in (
      x.0,
      x.1,
      x.2,
      err_as (λ (r : Result _ _). Carries c.args.order.now.stanza.now (rehearsed c.args.order.now.number keeps_one x.0 x.1 x.2) r a m) c.from_residual.result _ c.from_residual.ensures.1
          (carries_err {T = Lived} {U = Outcome} c.args.order.now.stanza.now (rehearsed c.args.order.now.number keeps_one x.0 x.1 x.2) c.in_err-lived.field-0.0 _ a m x.3),
      err_as (λ (r : Result Outcome (Halt StepFault)). IfOk r (IsRehearsed c.args.order.now.stanza.now c.args.order.now.number x.0 x.1 x.2 a.now m.now (g.T.DataFolder.state c.live.new.tree).nodes)) c.from_residual.result _ c.from_residual.ensures.1 tt,
    )

pub returns-in_err-lived-clause-cause : goal.returns-in_err-lived-clause-cause
returns-in_err-lived-clause-cause g c =
    let a = g.D.Disk.state c.args.repo.now in
    let m = g.D.Disk.state c.live.new.repo in
    ends_with (HaltCause (PrefixCause c.args.order.now.stanza.now c.args.order.now.number a.view.now) (Fails a.faults m.faults (g.T.DataFolder.state c.args.tree.now).faults (g.T.DataFolder.state c.live.new.tree).faults (g.C.Clock.state c.args.clock.now).faults (g.C.Clock.state c.live.new.clock).faults))
    c.from_residual.result c.in_err-lived.field-0.0 c.from_residual.ensures.1 c.in_err-lived.ensures.cause

pub returns-in_err-ended-clause-lives : goal.returns-in_err-ended-clause-lives
returns-in_err-ended-clause-lives g c =
    let a = (g.D.Disk.state c.args.repo.now).view in
    let m = (g.D.Disk.state c.live.new.repo).view in
    let d = (g.D.Disk.state c.end.new.repo).view in
    let x = c.in_ok-lived.ensures.lives in
    let r = c.from_residual-in_err-ended in (
      x.0,
      x.1,
      x.2,
      err_as (λ (r : Result _ _). Carries c.args.order.now.stanza.now (rehearsed c.args.order.now.number keeps_one x.0 x.1 x.2) r a d) r.result _ r.ensures.1
          (carries_still {E = Halt StepFault} {U = Outcome} c.args.order.now.stanza.now (rehearsed c.args.order.now.number keeps_one x.0 x.1 x.2) c.in_ok-lived.lived (Err _) a m d x.3 c.end.ensures.looks.time c.end.ensures.looks.now),
      err_as (λ (r : Result Outcome (Halt StepFault)). IfOk r (IsRehearsed c.args.order.now.stanza.now c.args.order.now.number x.0 x.1 x.2 a.now d.now (g.T.DataFolder.state c.end.new.tree).nodes)) r.result _ r.ensures.1 tt,
    )

pub returns-in_err-ended-clause-cause : goal.returns-in_err-ended-clause-cause
returns-in_err-ended-clause-cause g c =
    let stanza = c.args.order.now.stanza.now in
    let n = c.args.order.now.number in
    let a = g.D.Disk.state c.args.repo.now in
    let m = g.D.Disk.state c.live.new.repo in
    let d = g.D.Disk.state c.end.new.repo in
    let x = c.in_ok-lived.ensures.lives in
    let t = (g.T.DataFolder.state c.args.tree.now).faults in
    let v = (g.T.DataFolder.state c.live.new.tree).faults in
    let w = (g.T.DataFolder.state c.end.new.tree).faults in
    let k = (g.C.Clock.state c.args.clock.now).faults in
    let l = (g.C.Clock.state c.live.new.clock).faults in
    let within : Within a.faults m.faults d.faults d.faults t v w w k l l l = record { repo = c.live.ensures.frame.later; repo_after = le_refl d.faults; tree = c.live.ensures.folder.later; tree_after = le_refl w; clock = c.live.ensures.later; clock_behind = le_refl l } in
    ends_with (HaltCause (PrefixCause stanza n a.view.now) (Fails a.faults d.faults t w k l)) c.from_residual-in_err-ended.result c.in_err-ended.field-0.0 c.from_residual-in_err-ended.ensures.1
    (halt_as (StepCause stanza m.view.now) (PrefixCause stanza n a.view.now) (FailsBoth m.faults d.faults v w) (Fails a.faults d.faults t w k l)
    (end_cause {E = Halt StepFault} stanza n (rehearsed n keeps_one x.0 x.1 x.2) c.in_ok-lived.lived a.view m.view x.3 (Whole x.0 x.1 x.2))
    (both_in a.faults m.faults d.faults d.faults t v w w k l l l within)
    c.in_err-ended.field-0.0 c.in_err-ended.ensures.cause)

pub returns-in_err-tell-clause-lives : goal.returns-in_err-tell-clause-lives
returns-in_err-tell-clause-lives g c =
    let a = (g.D.Disk.state c.args.repo.now).view in
    let m = (g.D.Disk.state c.live.new.repo).view in
    let d = (g.D.Disk.state c.end.new.repo).view in
    let x = c.in_ok-lived.ensures.lives in
    let r = c.from_residual-in_err-tell in (
      x.0,
      x.1,
      x.2,
      err_as (λ (r : Result _ _). Carries c.args.order.now.stanza.now (rehearsed c.args.order.now.number keeps_one x.0 x.1 x.2) r a d) r.result _ r.ensures.1
          (carries_still {E = Halt StepFault} {U = Outcome} c.args.order.now.stanza.now (rehearsed c.args.order.now.number keeps_one x.0 x.1 x.2) c.in_ok-lived.lived (Err _) a m d x.3 c.end.ensures.looks.time c.end.ensures.looks.now),
      err_as (λ (r : Result Outcome (Halt StepFault)). IfOk r (IsRehearsed c.args.order.now.stanza.now c.args.order.now.number x.0 x.1 x.2 a.now d.now (g.T.DataFolder.state c.end.new.tree).nodes)) r.result _ r.ensures.1 tt,
    )

pub returns-clause-lives : goal.returns-clause-lives
returns-clause-lives g c =
    let stanza = c.args.order.now.stanza.now in
    let n = c.args.order.now.number in
    let a = (g.D.Disk.state c.args.repo.now).view in
    let m = (g.D.Disk.state c.live.new.repo).view in
    let d = (g.D.Disk.state c.end.new.repo).view in
    let nodes = (g.T.DataFolder.state c.end.new.tree).nodes in
    let x = c.in_ok-lived.ensures.lives in
    let l = c.in_ok-lived.lived in
    let e = c.in_ok-ended.ended in (
      x.0,
      x.1,
      x.2,
      carries_still {E = Halt StepFault} stanza (rehearsed n keeps_one x.0 x.1 x.2) l (Ok _) a m d x.3 c.end.ensures.looks.time c.end.ensures.looks.now,
      record {
        summary = record { first = l.first; second = l.second; third = l.third; expired = l.expired; kept = e.kept; restored = e.restored; findings = count_of e.found };
        lived = x.4;
        found = e.found;
        ended = subst (λ (o : Option Content). IsEnded stanza o nodes e.kept e.restored e.found) (sym c.end.ensures.looks.now) c.in_ok-ended.ensures.ended;
        findings = refl;
        lines = c.in_ok-tell.ensures;
      },
    )

pub returns-in_err-ended-clause-beside : goal.returns-in_err-ended-clause-beside
returns-in_err-ended-clause-beside g c =
    let m = (g.D.Disk.state c.live.new.repo).view in
    let d = (g.D.Disk.state c.end.new.repo).view in
    beside_on c.args.order.now.stanza.now (g.D.Disk.state c.args.repo.now).view m d c.live.ensures.beside (rests_beside c.args.order.now.stanza.now m d c.end.ensures.looks.time c.end.ensures.looks.now)

pub returns-in_err-tell-clause-beside : goal.returns-in_err-tell-clause-beside
returns-in_err-tell-clause-beside g c =
    let m = (g.D.Disk.state c.live.new.repo).view in
    let d = (g.D.Disk.state c.end.new.repo).view in
    beside_on c.args.order.now.stanza.now (g.D.Disk.state c.args.repo.now).view m d c.live.ensures.beside (rests_beside c.args.order.now.stanza.now m d c.end.ensures.looks.time c.end.ensures.looks.now)

pub returns-clause-beside : goal.returns-clause-beside
returns-clause-beside g c =
    let m = (g.D.Disk.state c.live.new.repo).view in
    let d = (g.D.Disk.state c.end.new.repo).view in
    beside_on c.args.order.now.stanza.now (g.D.Disk.state c.args.repo.now).view m d c.live.ensures.beside (rests_beside c.args.order.now.stanza.now m d c.end.ensures.looks.time c.end.ensures.looks.now)
