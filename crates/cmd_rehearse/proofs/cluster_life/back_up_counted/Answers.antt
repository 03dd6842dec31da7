use Rattle.std.proofs.Math.Nat.{le_refl}
use Rattle.std.proofs.Common.{inl, inr, sym, subst, refl, Result, Option}
use Rattle.std.specs.Prelude.{IfOk}
use Rattle.base_devices.specs.Cause.{Rises}
use Rattle.base_devices.specs.Content.{Content}
use Rattle.archive_store.specs.Still.{rests_none}
use Rattle.base_crash_lists.proofs.Stays.{rests_beside, beside_on}
use Rattle.backup_lemmas.proofs.Reading.{no_files}
use Rattle.cmd_types.specs.declared.stages.halt.Halt.{Halt}
use Rattle.cmd_types.specs.declared.stages.halt.Halt.TheVariants.{NoMemory}
use Rattle.cmd_types.specs.declared.stages.object.Object.TheVariants.{Repo}
use Rattle.cmd_types.specs.Halts.{HaltCause, Only}
use Rattle.cmd_types.specs.Plans.{archive_lock, backup_lock}
use Rattle.cmd_backup_common.proofs.Beginnings.{halt_as, ends_with, err_as as under_err}
use Rattle.cmd_rehearse.specs.declared.fault.StepFault.{StepFault}
use Rattle.cmd_rehearse.specs.Advancing.{Advances}
use Rattle.cmd_rehearse.specs.Backups.{IsTakenBy}
use Rattle.cmd_rehearse.specs.Causes.{StepCause, PartCause, Fails}
use Rattle.cmd_rehearse.specs.Commands.{backed_up}
use Rattle.cmd_rehearse.specs.Counting.{ShowsLast}
use Rattle.cmd_rehearse.proofs.Advanced.{stays_part, still_on, err_other}
use Rattle.cmd_rehearse.proofs.Failing.{Within, repo_in}
use Rattle.cmd_rehearse.proofs.Prefixes.{had_after, on_any}
use Rattle.cmd_rehearse.proofs.Pushes.{err_as}
use Rattle.cmd_rehearse.proofs.Taken.{held_too}
use Rattle.cmd_rehearse.proofs.cluster_life.back_up_counted.Goals as goal

pub back_up-ended-requires-clause-locked : goal.back_up-ended-requires-clause-locked
back_up-ended-requires-clause-locked g c = held_too (backup_lock c.args.step.now.stanza.now) (archive_lock c.args.step.now.stanza.now) (g.K.Locks.state c.args.locks.now).taken c.requires.locked

pub returns-in_err-others-clause-advances : goal.returns-in_err-others-clause-advances
returns-in_err-others-clause-advances g c =
    let a = g.D.Disk.state c.args.repo.now in
    let t = (g.T.DataFolder.state c.args.tree.now).faults in
    let x = (g.C.Clock.state c.args.clock.now).faults in (
      no_files,
      err_as (λ (r : Result _ _). Advances c.args.step.now.stanza.now (backed_up no_files) r a.view a.view) c.from_residual.result _ c.from_residual.ensures.1
          (stays_part c.args.step.now.stanza.now (backed_up no_files) _ a.view a.view (rests_none a.view) refl),
      ends_with (HaltCause (PartCause c.args.step.now.stanza.now (backed_up no_files) a.view.now) (Fails a.faults a.faults t t x x)) c.from_residual.result NoMemory c.from_residual.ensures.1 tt,
    )

pub returns-in_err-ended-clause-advances : goal.returns-in_err-ended-clause-advances
returns-in_err-ended-clause-advances g c =
    let stanza = c.args.step.now.stanza.now in
    let a = g.D.Disk.state c.args.repo.now in
    let d = g.D.Disk.state c.back_up-ended.new.repo in
    let F = Fails a.faults d.faults (g.T.DataFolder.state c.args.tree.now).faults (g.T.DataFolder.state c.back_up-ended.new.tree).faults (g.C.Clock.state c.args.clock.now).faults (g.C.Clock.state c.back_up-ended.new.clock).faults in
    let x = c.in_err-ended.ensures.advances in (
      x.0,
      err_as (λ (r : Result _ _). Advances stanza (backed_up x.0) r a.view d.view) c.from_residual-in_err-ended.result _ c.from_residual-in_err-ended.ensures.1
          (err_other {T = Unit {0}} stanza (backed_up x.0) c.in_err-ended.field-0.0 _ a.view d.view x.1),
      ends_with (HaltCause (PartCause stanza (backed_up x.0) a.view.now) F) c.from_residual-in_err-ended.result c.in_err-ended.field-0.0 c.from_residual-in_err-ended.ensures.1
          (halt_as (StepCause stanza a.view.now) (PartCause stanza (backed_up x.0) a.view.now) F F (λ e h. inl h) (λ o h. h) c.in_err-ended.field-0.0 c.in_err-ended.ensures.cause),
    )

pub returns-clause-advances : goal.returns-clause-advances
returns-clause-advances g c =
    let stanza = c.args.step.now.stanza.now in
    let a = g.D.Disk.state c.args.repo.now in
    let m = g.D.Disk.state c.back_up-ended.new.repo in
    let d = g.D.Disk.state c.count_last.new.repo in
    let t = (g.T.DataFolder.state c.args.tree.now).faults in
    let w = (g.T.DataFolder.state c.back_up-ended.new.tree).faults in
    let y = (g.C.Clock.state c.args.clock.now).faults in
    let q = (g.C.Clock.state c.back_up-ended.new.clock).faults in
    let x = c.in_ok-ended.ensures.advances in
    let looks = c.count_last.ensures.looks in
    let within : Within a.faults m.faults d.faults d.faults t t w w y y q q = record { repo = c.back_up-ended.ensures.frame.later; repo_after = le_refl d.faults; tree = le_refl t; tree_after = le_refl w; clock = le_refl y; clock_behind = le_refl q } in (
      x.0,
      still_on {T = Unit {0}} {E = Halt StepFault} stanza (backed_up x.0) c.in_ok-ended.field-0 c.count_last.result a.view m.view d.view x.1 looks.time looks.now,
      under_err (HaltCause (StepCause stanza m.view.now) (Only Repo (Rises m.faults d.faults))) (HaltCause (PartCause stanza (backed_up x.0) a.view.now) (Fails a.faults d.faults t w y q)) c.count_last.result
          (halt_as (StepCause stanza m.view.now) (PartCause stanza (backed_up x.0) a.view.now) (Only Repo (Rises m.faults d.faults)) (Fails a.faults d.faults t w y q)
          (λ e h. inr (had_after {T = Unit {0}} {E = Halt StepFault} stanza (backed_up x.0) c.in_ok-ended.field-0 a.view m.view (λ now. StepCause stanza now e) x.1 h))
          (repo_in a.faults m.faults d.faults d.faults t t w w y y q q within))
          c.count_last.ensures.cause,
    )

pub returns-clause-known : goal.returns-clause-known
returns-clause-known g c = subst (λ (o : Option Content). IfOk c.count_last.result (ShowsLast c.args.step.now.stanza.now c.args.step.now.counted o)) (sym c.count_last.ensures.looks.now) c.count_last.ensures.known

pub returns-clause-beside : goal.returns-clause-beside
returns-clause-beside g c =
    let m = (g.D.Disk.state c.back_up-ended.new.repo).view in
    let d = (g.D.Disk.state c.count_last.new.repo).view in
    beside_on c.args.step.now.stanza.now (g.D.Disk.state c.args.repo.now).view m d c.back_up-ended.ensures.beside (rests_beside c.args.step.now.stanza.now m d c.count_last.ensures.looks.time c.count_last.ensures.looks.now)

pub returns-clause-taken : goal.returns-clause-taken
returns-clause-taken g c =
    let a = (g.D.Disk.state c.args.repo.now).view.now in
    on_any c.count_last.result _ (subst (λ (o : Option Content). IsTakenBy c.args.step.now.stanza.now c.args.step.now.kind a o) (sym c.count_last.ensures.looks.now) c.in_ok-ended.ensures.taken)
