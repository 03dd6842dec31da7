-- How a backup that the server stopped ends the command, and why. Own.
use Rattle.std.specs.Prelude.{◌≡◌, ◌⊎◌, ℕ, List, Option, Result, Ok, Err, String, string_bytes}
use Rattle.std.specs.declared.alloc.Global.{Global}
use Rattle.base_devices.specs.Content.{Content}
use Rattle.base_devices.specs.Links.{LinkState}
use Rattle.base_devices.specs.Moments.{View}
use Rattle.base_model.specs.declared.wal.ArchiveId.{ArchiveId}
use Rattle.base_model.specs.declared.wal.WalPart.{WalPart}
use Rattle.base_model.specs.InfoFiles.{info_limit}
use Rattle.base_model.specs.ManifestText.{manifest_limit}
use Rattle.base_model.specs.Text.{Text}
use Rattle.backup_sink.specs.declared.keeper.EndedItem.{EndedItem}
use Rattle.backup_record.specs.Faults.{IsMissing}
use Rattle.backup_make.specs.declared.draft.Draft.{Draft}
use Rattle.backup_make.specs.declared.fault.MakeFault.{MakeFault}
use Rattle.backup_make.specs.Draft.{pair_of, main_of, files_with}
use Rattle.backup_make.specs.Faults.{IsManifestLong, IsListLong}
use Rattle.backup_make.specs.Made.{OutcomeOf}
use Rattle.backup_make.specs.Online.{Online}
use Rattle.backup_make.specs.Staged.{IsStaged}
use Rattle.archive_wait.specs.declared.fault.AwaitFault.TheVariants as waits
use Rattle.archive_wait.specs.Causes.{WaitCause}
use Rattle.cmd_types.specs.declared.stages.halt.Halt.{Halt}
use Rattle.cmd_types.specs.declared.stages.outcome.Outcome.{Outcome}
use Rattle.cmd_backup_common.specs.declared.parts.fault.BackupFault.{BackupFault}
use Rattle.cmd_backup_common.specs.declared.parts.fault.BackupFault.TheVariants.{ControlMissing, TooLong}
use Rattle.cmd_backup_common.specs.Making.{IsEndWith}
use Rattle.cmd_backup_offline.specs.declared.fault.OfflineFault.TheVariants as laters
use Rattle.cmd_backup_online.specs.declared.fault.OnlineBackupFault.{OnlineBackupFault}
use Rattle.cmd_backup_online.specs.declared.fault.OnlineBackupFault.TheVariants.{Take, NotArrived, Ambiguous}
use Rattle.cmd_backup_online.specs.Faults.{of_backup}

-- what the end of any backup's command is here
abbrev pub of_end : Result Outcome (Halt BackupFault) → Result Outcome (Halt OnlineBackupFault)
of_end (Ok outcome) = Ok outcome
of_end (Err halt) = Err (of_backup halt)

-- The backup was published, of what lies in its label's folder, and the command ended with these lines; or it wasn't.
pub record Publishes (lines : Text) (d : Draft) (o : Option Online) (ends : List (List EndedItem)) (old new : View)
    (result : Result Outcome (Halt OnlineBackupFault)) : Type 0 where
  pub made : Result (Unit {0}) MakeFault
  pub outcome : (links : List LinkState) → IsStaged d o links ends old → OutcomeOf made d o links old new
  pub ended : Result Outcome (Halt BackupFault)
  pub end : IsEndWith d lines made ended
  pub is : result ≡ of_end ended

-- ---- why it isn't published

-- the manifest, or the list with the backup, would have more bytes than the limit
abbrev pub IsPastWith : Draft → Option Online → List (List EndedItem) → String Global → ℕ → Type 0
IsPastWith d o ends name limit =
    ((string_bytes name ≡ pair_of d) × (limit ≡ manifest_limit) × ((n : ℕ) × IsManifestLong d o ends n))
    ⊎ ((string_bytes name ≡ main_of d) × (limit ≡ info_limit) × ((n : ℕ) × IsListLong d o ends n))

-- why the draft's backup isn't published, where its jobs ended so
abbrev pub PublishCause : Draft → Option Online → List (List EndedItem) → BackupFault → Type 0
PublishCause d o ends (ControlMissing path) = IsMissing (string_bytes path) (files_with d ends)
PublishCause d o ends (TooLong name limit) = IsPastWith d o ends name limit
PublishCause d o ends other = ⊥

abbrev pub OfTake : (BackupFault → Type 0) → OnlineBackupFault → Type 0
OfTake Why (Take (laters.Take fault)) = Why fault
OfTake Why other = ⊥

-- why its segments are waited for without success
abbrev pub VainCause : Text → ArchiveId → WalPart → ℕ → Option Content → ℕ → ℕ → OnlineBackupFault → Type 0
VainCause stanza id part most now turns turned (NotArrived segment waited) =
    WaitCause stanza id part most now ⊥ ⊥ turns turned (waits.NotArrived segment waited)
VainCause stanza id part most now turns turned (Ambiguous first second) =
    WaitCause stanza id part most now ⊥ ⊥ turns turned (waits.Ambiguous first second)
VainCause stanza id part most now turns turned other = ⊥
