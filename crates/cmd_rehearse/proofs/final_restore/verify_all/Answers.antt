use Rattle.std.proofs.Math.Nat.{le_refl}
use Rattle.std.proofs.Common.{sym, subst, Option}
use Rattle.base_devices.specs.Cause.{Rises}
use Rattle.base_devices.proofs.States.{looks_on}
use Rattle.base_devices.specs.Content.{Content}
use Rattle.cmd_types.specs.declared.stages.object.Object.TheVariants.{Repo}
use Rattle.cmd_types.specs.Halts.{HaltCause, Only}
use Rattle.cmd_backup_common.proofs.Beginnings.{halt_as, ends_with}
use Rattle.cmd_verify.specs.Verifying.{VerifyCommandCause, IsVerified, EndsWithNone}
use Rattle.cmd_rehearse.specs.Causes.{LostCause, StepCause}
use Rattle.cmd_rehearse.proofs.Causing.{lost_step, examine_fails}
use Rattle.cmd_rehearse.proofs.Failing.{only_in}
use Rattle.cmd_rehearse.proofs.final_restore.verify_all.Goals as goal

pub returns-in_err-backup-clause-cause : goal.returns-in_err-backup-clause-cause
returns-in_err-backup-clause-cause g c =
    let stanza = c.args.stanza.now in
    let a = g.D.Disk.state c.args.repo.now in
    let F = Only Repo (Rises a.faults (g.D.Disk.state c.read_backup.new.repo).faults) in
    ends_with (HaltCause (StepCause stanza a.view.now) F) c.from_residual.result c.in_err-backup.field-0.0 c.from_residual.ensures.1
    (halt_as (LostCause stanza a.view.now) (StepCause stanza a.view.now) F F (lost_step stanza a.view.now) (λ o h. h) c.in_err-backup.field-0.0 c.in_err-backup.ensures.cause)

pub returns-in-Ok-clause-looks : goal.returns-in-Ok-clause-looks
returns-in-Ok-clause-looks g c = looks_on (g.D.Disk.state c.args.repo.now) (g.D.Disk.state c.read_backup.new.repo) (g.D.Disk.state c.verify_stanza.new.repo) c.read_backup.ensures.looks c.verify_stanza.ensures.looks

pub returns-in-Ok-clause-examined : goal.returns-in-Ok-clause-examined
returns-in-Ok-clause-examined g c = subst (λ (o : Option Content). IsVerified c.args.stanza.now o c.in-Ok.outcome) c.read_backup.ensures.looks.now c.in-Ok.ensures.examined

pub returns-in-Ok-clause-sound : goal.returns-in-Ok-clause-sound
returns-in-Ok-clause-sound g c = subst (λ (o : Option Content). EndsWithNone c.args.stanza.now o c.in-Ok.outcome) c.read_backup.ensures.looks.now c.in-Ok.ensures.sound

pub returns-clause-looks : goal.returns-clause-looks
returns-clause-looks g c = looks_on (g.D.Disk.state c.args.repo.now) (g.D.Disk.state c.read_backup.new.repo) (g.D.Disk.state c.verify_stanza.new.repo) c.read_backup.ensures.looks c.verify_stanza.ensures.looks

pub returns-clause-cause : goal.returns-clause-cause
returns-clause-cause g c =
    let stanza = c.args.stanza.now in
    let a = g.D.Disk.state c.args.repo.now in
    let m = g.D.Disk.state c.read_backup.new.repo in
    let d = g.D.Disk.state c.verify_stanza.new.repo in
    let F = Only Repo (Rises m.faults d.faults) in
    subst (HaltCause (StepCause stanza a.view.now) (Only Repo (Rises a.faults d.faults))) (sym c.of_examine.ensures)
    (halt_as (StepCause stanza a.view.now) (StepCause stanza a.view.now) F (Only Repo (Rises a.faults d.faults)) (λ e h. h)
    (only_in a.faults m.faults d.faults d.faults c.read_backup.ensures.looks.later (le_refl d.faults)) _
    (examine_fails stanza a.view.now F c.in-Err.halt
    (subst (λ (o : Option Content). HaltCause (VerifyCommandCause stanza o) F c.in-Err.halt) c.read_backup.ensures.looks.now c.in-Err.ensures.cause)))
