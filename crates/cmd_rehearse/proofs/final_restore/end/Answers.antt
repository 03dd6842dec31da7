use Rattle.std.proofs.Math.Nat.{le_refl}
use Rattle.std.proofs.Common.{arith, refl, sym, subst, Option}
use Rattle.base_devices.specs.Cause.{Rises}
use Rattle.base_devices.specs.Content.{Content}
use Rattle.base_devices.proofs.States.{looks_on}
use Rattle.cmd_types.specs.declared.stages.object.Object.TheVariants.{Repo, TheDataFolder}
use Rattle.cmd_types.specs.Halts.{HaltCause, Only}
use Rattle.cmd_backup_common.proofs.Beginnings.{halt_as, ends_with, err_as as under_err}
use Rattle.cmd_rehearse.specs.Causes.{StepCause, FailsBoth}
use Rattle.cmd_rehearse.proofs.Ends.{ends_over}
use Rattle.cmd_rehearse.proofs.Failing.{both_on, repo_on, tree_on, stop_fails}
use Rattle.cmd_rehearse.proofs.final_restore.end.Goals as goal

pub returns-in-Err-clause-cause : goal.returns-in-Err-clause-cause
returns-in-Err-clause-cause g c =
    let a = g.D.Disk.state c.args.repo.now in
    let t = (g.T.DataFolder.state c.args.tree.now).faults in
    let w = (g.T.DataFolder.state c.spoil_cluster.new.tree).faults in
    let W = StepCause c.args.order.now.stanza.now a.view.now in
    subst (HaltCause W (FailsBoth a.faults a.faults t w)) (sym c.halted.ensures)
    (halt_as W W (Only TheDataFolder (Rises t w)) (FailsBoth a.faults a.faults t w) (λ e h. h) (tree_on a.faults a.faults a.faults a.faults t t w w (le_refl a.faults) (le_refl a.faults) (le_refl t) (le_refl w)) _
    (stop_fails W t w _ c.in-Err.error refl c.in-Err.ensures.cause))

pub returns-in_err-restore_last-clause-cause : goal.returns-in_err-restore_last-clause-cause
returns-in_err-restore_last-clause-cause g c =
    let a = g.D.Disk.state c.args.repo.now in
    let d = g.D.Disk.state c.restore_last.new.repo in
    let t = (g.T.DataFolder.state c.args.tree.now).faults in
    let u = (g.T.DataFolder.state c.spoil_cluster.new.tree).faults in
    let w = (g.T.DataFolder.state c.restore_last.new.tree).faults in
    let W = StepCause c.args.order.now.stanza.now a.view.now in
    ends_with (HaltCause W (FailsBoth a.faults d.faults t w)) c.from_residual.result c.in_err-restore_last.field-0.0 c.from_residual.ensures.1
    (halt_as W W (FailsBoth a.faults d.faults u w) (FailsBoth a.faults d.faults t w) (λ e h. h)
    (both_on a.faults a.faults d.faults d.faults t u w w (le_refl a.faults) (le_refl d.faults) c.spoil_cluster.ensures.cause.later (le_refl w))
    c.in_err-restore_last.field-0.0 c.in_err-restore_last.ensures.cause)

pub returns-clause-looks : goal.returns-clause-looks
returns-clause-looks g c = looks_on (g.D.Disk.state c.args.repo.now) (g.D.Disk.state c.restore_last.new.repo) (g.D.Disk.state c.look_around.new.repo) c.restore_last.ensures.looks c.look_around.ensures.looks

pub returns-clause-ended : goal.returns-clause-ended
returns-clause-ended g c = ends_over c.args.order.now.stanza.now (g.D.Disk.state c.args.repo.now).view.now (g.D.Disk.state c.restore_last.new.repo).view.now c.restore_last.ensures.looks.now (g.T.DataFolder.state c.restore_last.new.tree).nodes c.in_ok-restore_last.ensures.restored c.look_around.result c.look_around.ensures.ended

pub returns-clause-cause : goal.returns-clause-cause
returns-clause-cause g c =
    let stanza = c.args.order.now.stanza.now in
    let a = g.D.Disk.state c.args.repo.now in
    let m = g.D.Disk.state c.restore_last.new.repo in
    let d = g.D.Disk.state c.look_around.new.repo in
    let t = (g.T.DataFolder.state c.args.tree.now).faults in
    let w = (g.T.DataFolder.state c.restore_last.new.tree).faults in
    under_err (HaltCause (StepCause stanza m.view.now) (Only Repo (Rises m.faults d.faults))) (HaltCause (StepCause stanza a.view.now) (FailsBoth a.faults d.faults t w)) c.look_around.result
    (halt_as (StepCause stanza m.view.now) (StepCause stanza a.view.now) (Only Repo (Rises m.faults d.faults)) (FailsBoth a.faults d.faults t w)
    (λ e h. subst (λ (o : Option Content). StepCause stanza o e) c.restore_last.ensures.looks.now h)
    (repo_on a.faults m.faults d.faults d.faults t w w w c.restore_last.ensures.looks.later (le_refl d.faults) (omega (arith, c.spoil_cluster.ensures.cause.later, c.restore_last.ensures.folder.later)) (le_refl w)))
    c.look_around.ensures.cause
