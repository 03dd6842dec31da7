-- What the arguments of a backup say. Own.
use Rattle.std.specs.Prelude.{◌≡◌}
use Rattle.cmd_backup_offline.specs.declared.order.OfflineOrder.{OfflineOrder}
use Rattle.cmd_trait.specs.Meaning.{Place}
use Rattle.run_backup.specs.Asking.{BackupHow}
use Rattle.run_backup.specs.Offline.{taking_of}

-- a backup at these places, as it is asked for
pub record IsOfflineOrder (p : Place) (how : BackupHow) (o : OfflineOrder) : Type 0 where
  pub folder : o.take.data_folder.now ≡ p.data_folder
  pub repository : o.take.repository.now ≡ p.repository
  pub how_is : taking_of o ≡ how
