-- How a backup is asked for (pgBackRest command reference, "Backup Command").
use Rattle.std.specs.Prelude.{ℕ, Bool}
use Rattle.base_model.specs.declared.labels.BackupKind.{BackupKind}
use Rattle.backup_plan.specs.declared.values.PlanSettings.{PlanSettings}

-- How a server is backed up: with how many workers, as which kind (option `type`), and by which settings. These say
-- whether a file is distinguished from the prior backup's by its digest (option `delta`), and how small files are stored
-- together (options `repo1-bundle`, `repo1-bundle-size`, `repo1-bundle-limit`).
pub record BackupHow : Type 0 where
  pub workers : ℕ
  pub kind : BackupKind
  pub settings : PlanSettings

-- how a running server is backed up: as a stopped one is, whether it makes its checkpoint at once (option
-- `start-fast`), and how many steps of others are waited for at most (option `archive-timeout`)
pub record RunningHow : Type 0 where
  pub taken : BackupHow
  pub fast : Bool
  pub turns : ℕ
