use Rattle.std.proofs.Common.{subst, ◌∙◌}
use Rattle.std.specs.Prelude.{IfSome}
use Rattle.base_model.specs.Text.{Text}
use Rattle.base_model.specs.Pair.{PairIs}
use Rattle.base_model.specs.InfoFiles.{IsBackupText}
use Rattle.base_model.specs.Values.{backup_info_of}
use Rattle.cmd_setup.proofs.pairs.read_backup.Goals as goal

pub returns-in-Ok-clause-found : goal.returns-in-Ok-clause-found
returns-in-Ok-clause-found g c = (
  subst (λ (n : Text). IfSome (g.D.Disk.state c.args.repo.now).view.now (λ f. PairIs IsBackupText f n (backup_info_of c.in-Ok.info)))
      (c.as_str.ensures.value ∙ c.in_ok-name.ensures) c.in-Ok.ensures.found,
  c.in-Ok.ensures.valid,
)
