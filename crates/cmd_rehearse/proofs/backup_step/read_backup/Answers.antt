use Rattle.std.proofs.Common.{inl, inr, subst, sym, ◌∙◌}
use Rattle.std.specs.Prelude.{IfSome}
use Rattle.base_devices.specs.Cause.{Rises}
use Rattle.base_model.specs.Text.{Text}
use Rattle.base_model.specs.Pair.{PairIs}
use Rattle.base_model.specs.InfoFiles.{IsBackupText, info_limit}
use Rattle.base_model.specs.Names.{backup_info}
use Rattle.base_model.specs.Values.{backup_info_of}
use Rattle.repo_info.specs.BackupForm.{IsBackupForm}
use Rattle.repo_pair.specs.Causes.{PairCause}
use Rattle.cmd_types.specs.declared.stages.object.Object.TheVariants.{Repo}
use Rattle.cmd_types.specs.Halts.{HaltCause, Only}
use Rattle.cmd_rehearse.specs.Causes.{LostCause}
use Rattle.cmd_rehearse.proofs.Causing.{pair_lost}
use Rattle.cmd_rehearse.proofs.backup_step.read_backup.Goals as goal

pub returns-in-Ok-clause-found : goal.returns-in-Ok-clause-found
returns-in-Ok-clause-found g c = (
  subst (λ (n : Text). IfSome (g.D.Disk.state c.args.repo.now).view.now (λ f. PairIs IsBackupText f n (backup_info_of c.in-Ok.info)))
      (c.as_str.ensures.value ∙ c.in_ok-name.ensures) c.in-Ok.ensures.found,
  c.in-Ok.ensures.valid,
)

pub returns-clause-cause : goal.returns-clause-cause
returns-clause-cause g c =
    let stanza = c.args.stanza.now in
    let now = (g.D.Disk.state c.args.repo.now).view.now in
    let rose = Rises (g.D.Disk.state c.args.repo.now).faults (g.D.Disk.state c.load_pair.new.d).faults in
    let cause = subst (λ (n : Text). PairCause IsBackupText IsBackupForm info_limit n now rose c.in-Err.fault) (c.as_str.ensures.value ∙ c.in_ok-name.ensures) c.in-Err.ensures.cause in
    subst (HaltCause (LostCause stanza now) (Only Repo rose)) (sym c.of_info.ensures)
    (pair_lost IsBackupText IsBackupForm info_limit (backup_info stanza) now rose (LostCause stanza now) (λ u. inr (inl u)) c.in-Err.fault cause)
