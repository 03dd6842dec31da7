-- Why a backup is refused before the server is asked. Own.
use Rattle.std.specs.Prelude.{◌≤◌, ◌<◌, ◌+◌, ℕ, List, Option}
use Rattle.base_devices.specs.Content.{Content}
use Rattle.base_devices.specs.Links.{LinkState}
use Rattle.base_model.specs.declared.labels.BackupKind.{BackupKind}
use Rattle.base_model.specs.Text.{Text}
use Rattle.base_model.specs.Values.{ArchiveInfo, BackupInfo}
use Rattle.repo_stanza.specs.declared.control.Control.{Control}
use Rattle.repo_stanza.specs.Judging.{Validates}
use Rattle.cmd_backup_common.specs.declared.parts.fault.BackupFault.{BackupFault}
use Rattle.cmd_backup_common.specs.declared.parts.fault.BackupFault.TheVariants.{HistoryDiffers, StanzaMismatch, TooMany, WorkersLost, ClockBehind}
use Rattle.cmd_backup_common.specs.Beginning.{FitCause, RoomCause, LostCause}
use Rattle.cmd_backup_common.specs.Seconds.{StatesSecond}
use Rattle.cmd_backup_offline.specs.declared.fault.OfflineFault.{OfflineFault}
use Rattle.cmd_backup_offline.specs.declared.fault.OfflineFault.TheVariants.{Take, PriorDamaged}
use Rattle.cmd_backup_offline.specs.Basing.{base_label, BaseCause}

-- the values of the pairs don't fit, the list is full, or all workers are lost
abbrev pub ReadyCause : Control → ArchiveInfo → BackupInfo → List LinkState → BackupFault → Type 0
ReadyCause known a b used (HistoryDiffers at) = FitCause known a b (HistoryDiffers at)
ReadyCause known a b used (StanzaMismatch kept found) = FitCause known a b (StanzaMismatch kept found)
ReadyCause known a b used (TooMany limit) = RoomCause b (TooMany limit)
ReadyCause known a b used (WorkersLost lost) = LostCause used (WorkersLost lost)
ReadyCause known a b used other = ⊥

-- or the clock is too far behind a second of which this holds
abbrev pub SecondCause : Control → ArchiveInfo → BackupInfo → ℕ → (ℕ → Type 0) → List LinkState → BackupFault → Type 0
SecondCause known a b least Stated used (ClockBehind latest now) = (now + 10 < latest) × (least ≤ now) × Stated latest
SecondCause known a b least Stated used other = ReadyCause known a b used other

-- or the manifest isn't read of the listed backup that one of this kind is based on
abbrev pub PrepareCause : Text → BackupKind → Control → ArchiveInfo → BackupInfo → Option Content → ℕ → List LinkState
    → OfflineFault → Type 0
PrepareCause stanza kind known a b now least used (Take fault) =
    SecondCause known a b least (StatesSecond stanza b now) used fault
PrepareCause stanza kind known a b now least used (PriorDamaged text main copy) =
    (list : BackupInfo) × Validates a b list × BaseCause stanza now (base_label kind list) (PriorDamaged text main copy)
