use Rattle.std.proofs.Common.{inl, subst, sym, ◌∙◌}
use Rattle.std.specs.Prelude.{IfSome}
use Rattle.base_devices.specs.Cause.{Rises}
use Rattle.base_model.specs.Text.{Text}
use Rattle.base_model.specs.Pair.{PairIs}
use Rattle.base_model.specs.InfoFiles.{IsArchiveText, info_limit}
use Rattle.base_model.specs.Names.{archive_info}
use Rattle.base_model.specs.Values.{archive_info_of}
use Rattle.repo_info.specs.ArchiveForm.{IsArchiveForm}
use Rattle.repo_pair.specs.Causes.{PairCause}
use Rattle.cmd_types.specs.declared.stages.object.Object.TheVariants.{Repo}
use Rattle.cmd_types.specs.Halts.{HaltCause, Only}
use Rattle.cmd_rehearse.specs.Causes.{LostCause}
use Rattle.cmd_rehearse.proofs.Causing.{pair_lost}
use Rattle.cmd_rehearse.proofs.stanza_setup.read_archive.Goals as goal

pub returns-in-Ok-clause-found : goal.returns-in-Ok-clause-found
returns-in-Ok-clause-found g c = (
  subst (λ (n : Text). IfSome (g.D.Disk.state c.args.repo.now).view.now (λ f. PairIs IsArchiveText f n (archive_info_of c.in-Ok.info)))
      (c.as_str.ensures.value ∙ c.in_ok-name.ensures) c.in-Ok.ensures.found,
  c.in-Ok.ensures.valid,
)

pub returns-clause-cause : goal.returns-clause-cause
returns-clause-cause g c =
    let stanza = c.args.stanza.now in
    let now = (g.D.Disk.state c.args.repo.now).view.now in
    let rose = Rises (g.D.Disk.state c.args.repo.now).faults (g.D.Disk.state c.load_pair.new.d).faults in
    let cause = subst (λ (n : Text). PairCause IsArchiveText IsArchiveForm info_limit n now rose c.in-Err.fault) (c.as_str.ensures.value ∙ c.in_ok-name.ensures) c.in-Err.ensures.cause in
    subst (HaltCause (LostCause stanza now) (Only Repo rose)) (sym c.of_info.ensures)
    (pair_lost IsArchiveText IsArchiveForm info_limit (archive_info stanza) now rose (LostCause stanza now) (λ u. inl u) c.in-Err.fault cause)
