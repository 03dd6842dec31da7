-- How the talk with the server ends a refused backup, and why. Own.
use Rattle.std.specs.Prelude.{◌≢◌, ◌⊎◌, ℕ, List, Option}
use Rattle.base_devices.specs.Links.{LinkState}
use Rattle.base_devices.specs.DataFolder.{Nodes}
use Rattle.base_model.specs.Text.{Text}
use Rattle.base_model.specs.Values.{BackupInfo, FileEntry}
use Rattle.server_talk.specs.Sends.{Ended}
use Rattle.cmd_types.specs.declared.stages.halt.Halt.{Halt}
use Rattle.cmd_types.specs.declared.stages.halt.Halt.TheVariants.{NoMemory}
use Rattle.worker_pool.specs.declared.dispatch.fault.Lost.{Lost}
use Rattle.cmd_backup_offline.specs.declared.fault.OfflineFault.TheVariants as laters
use Rattle.cmd_backup_offline.specs.declared.order.OfflineOrder.{OfflineOrder}
use Rattle.cmd_backup_online.specs.declared.fault.OnlineBackupFault.{OnlineBackupFault}
use Rattle.cmd_backup_online.specs.declared.fault.OnlineBackupFault.TheVariants.{Take}
use Rattle.cmd_backup_online.specs.Gathering.{GatherCause}
use Rattle.cmd_backup_online.specs.Modelled.{OfTalk, TalkFails}

-- the last that the server was sent is the end, unless the connection failed or memory ran out
abbrev pub EndsTalk : Type 0 → Option (List ℕ) → Halt OnlineBackupFault → Type 0
EndsTalk rose sent halt = halt ≢ NoMemory → Ended sent ⊎ rose

-- why the data folder isn't read, or the server of this system doesn't start or stop a backup
abbrev pub SpokenCause : Text → OfflineOrder → Option Nodes → BackupInfo → List FileEntry → List LinkState → List Lost → ℕ
    → Option (List ℕ) → Option (List ℕ) → OnlineBackupFault → Type 0
SpokenCause stanza o nodes list files links before system old new (Take (laters.Take fault)) =
    GatherCause stanza o nodes list files links before fault
SpokenCause stanza o nodes list files links before system old new other = OfTalk (TalkFails system old new) other
