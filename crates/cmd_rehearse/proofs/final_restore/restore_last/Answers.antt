use Rattle.std.proofs.Math.Nat.{le_refl}
use Rattle.std.proofs.Common.{map, take, refl, sym, subst}
use Rattle.std.specs.Prelude.{None, true, Option}
use Rattle.base_devices.specs.Content.{Content}
use Rattle.base_devices.specs.Cause.{Rises}
use Rattle.base_devices.proofs.States.{looks_on}
use Rattle.cmd_types.specs.declared.stages.object.Object.TheVariants.{Repo}
use Rattle.cmd_types.specs.Halts.{HaltCause, Only}
use Rattle.cmd_backup_common.proofs.Beginnings.{halt_as, ends_with}
use Rattle.cmd_restore.specs.Fetching.{options_by}
use Rattle.cmd_restore.specs.Fetching.RecoveryType.{Without}
use Rattle.restore_choice.specs.declared.choice.Choice.TheVariants.{Last}
use Rattle.restore_choice.specs.Choosing.{unbounded}
use Rattle.cmd_restore.specs.Restoring.{Before, Recovers}
use Rattle.cmd_rehearse.specs.Causes.{LostCause, StepCause, FailsBoth}
use Rattle.cmd_rehearse.proofs.Causing.{lost_step, recover_fails}
use Rattle.cmd_rehearse.proofs.Ends.{lines_of}
use Rattle.cmd_rehearse.proofs.Failing.{both_on, repo_on}
use Rattle.cmd_rehearse.proofs.final_restore.restore_last.Goals as goal

pub invariant_of-recover : goal.invariant_of-recover
invariant_of-recover g c = record { short = c.args.order.now.take.short; repository_short = c.args.order.now.take.repository_short; label = tt }

pub returns-in_err-backup-clause-cause : goal.returns-in_err-backup-clause-cause
returns-in_err-backup-clause-cause g c =
    let stanza = c.args.order.now.stanza.now in
    let a = g.D.Disk.state c.args.repo.now in
    let n = g.D.Disk.state c.read_archive.new.repo in
    let m = g.D.Disk.state c.read_backup.new.repo in
    let t = (g.T.DataFolder.state c.args.tree.now).faults in
    ends_with (HaltCause (StepCause stanza a.view.now) (FailsBoth a.faults m.faults t t)) c.from_residual-in_err-backup.result c.in_err-backup.field-0.0 c.from_residual-in_err-backup.ensures.1
    (subst (λ (o : Option Content). HaltCause (StepCause stanza o) (FailsBoth a.faults m.faults t t) c.in_err-backup.field-0.0) c.read_archive.ensures.looks.now
    (halt_as (LostCause stanza n.view.now) (StepCause stanza n.view.now) (Only Repo (Rises n.faults m.faults)) (FailsBoth a.faults m.faults t t) (lost_step stanza n.view.now)
    (repo_on a.faults n.faults m.faults m.faults t t t t c.read_archive.ensures.looks.later (le_refl m.faults) (le_refl t) (le_refl t))
    c.in_err-backup.field-0.0 c.in_err-backup.ensures.cause))

pub returns-in-Ok-clause-looks : goal.returns-in-Ok-clause-looks
returns-in-Ok-clause-looks g c = looks_on (g.D.Disk.state c.args.repo.now) (g.D.Disk.state c.read_archive.new.repo) (g.D.Disk.state c.restore_backup-restored.new.repo) c.read_archive.ensures.looks (looks_on (g.D.Disk.state c.read_archive.new.repo) (g.D.Disk.state c.read_backup.new.repo) (g.D.Disk.state c.restore_backup-restored.new.repo) c.read_backup.ensures.looks c.restore_backup-restored.ensures.looks)

pub returns-clause-looks : goal.returns-clause-looks
returns-clause-looks g c = looks_on (g.D.Disk.state c.args.repo.now) (g.D.Disk.state c.read_archive.new.repo) (g.D.Disk.state c.restore_backup-restored.new.repo) c.read_archive.ensures.looks (looks_on (g.D.Disk.state c.read_archive.new.repo) (g.D.Disk.state c.read_backup.new.repo) (g.D.Disk.state c.restore_backup-restored.new.repo) c.read_backup.ensures.looks c.restore_backup-restored.ensures.looks)

pub returns-in-Ok-clause-restored : goal.returns-in-Ok-clause-restored
returns-in-Ok-clause-restored g c =
    let l = looks_on (g.D.Disk.state c.args.repo.now) (g.D.Disk.state c.read_archive.new.repo) (g.D.Disk.state c.read_backup.new.repo) c.read_archive.ensures.looks c.read_backup.ensures.looks in
    let b : Before = record { stanza = c.args.order.now.stanza.now; choice = Last unbounded; repo = (g.D.Disk.state c.read_backup.new.repo).view.now; nodes = (g.T.DataFolder.state c.args.tree.now).nodes; used = take c.args.order.now.take.workers (map g.L.Link.link_state c.deal_links.new.pool.links.items); options = options_by c.args.order.now.stanza.now true Without } in
    let x = lines_of c.in-Ok.field-0 (Recovers b (g.T.DataFolder.state c.restore_backup-restored.new.tree).nodes) c.in-Ok.ensures.restored in
    record { before = b; stanza_is = refl; choice_is = refl; repo_is = l.now; lines = x.0; recovers = x.1 }

pub returns-clause-cause : goal.returns-clause-cause
returns-clause-cause g c =
    let stanza = c.args.order.now.stanza.now in
    let a = g.D.Disk.state c.args.repo.now in
    let m = g.D.Disk.state c.read_backup.new.repo in
    let d = g.D.Disk.state c.restore_backup-restored.new.repo in
    let t = (g.T.DataFolder.state c.args.tree.now).faults in
    let w = (g.T.DataFolder.state c.restore_backup-restored.new.tree).faults in
    let l = looks_on a (g.D.Disk.state c.read_archive.new.repo) m c.read_archive.ensures.looks c.read_backup.ensures.looks in
    let F = FailsBoth m.faults d.faults t w in
    let b : Before = record { stanza = c.args.order.now.stanza.now; choice = Last unbounded; repo = (g.D.Disk.state c.read_backup.new.repo).view.now; nodes = (g.T.DataFolder.state c.args.tree.now).nodes; used = take c.args.order.now.take.workers (map g.L.Link.link_state c.deal_links.new.pool.links.items); options = options_by c.args.order.now.stanza.now true Without } in
    subst (HaltCause (StepCause stanza a.view.now) (FailsBoth a.faults d.faults t w)) (sym c.of_restore.ensures)
    (halt_as (StepCause stanza a.view.now) (StepCause stanza a.view.now) F (FailsBoth a.faults d.faults t w) (λ e h. h)
    (both_on a.faults m.faults d.faults d.faults t t w w l.later (le_refl d.faults) (le_refl t) (le_refl w)) _
    (recover_fails stanza b a.view.now F refl refl l.now c.in-Err.halt c.in-Err.ensures.cause))
