-- Why a backup is refused before the server is asked.
use Rattle.std.proofs.Common.{◌≡◌, ℕ, List, Option, sym, subst}
use Rattle.base_devices.specs.Cause.{Rises}
use Rattle.base_devices.specs.Content.{Content}
use Rattle.base_devices.specs.Links.{LinkState}
use Rattle.base_devices.specs.States.{ClockState}
use Rattle.base_model.specs.declared.labels.BackupKind.{BackupKind}
use Rattle.base_model.specs.Text.{Text}
use Rattle.base_model.specs.Values.{ArchiveInfo, BackupInfo}
use Rattle.repo_stanza.specs.declared.control.Control.{Control}
use Rattle.repo_stanza.specs.Judging.{Validates}
use Rattle.cmd_backup_common.specs.declared.drafts.fault.SecondFault.{SecondFault}
use Rattle.cmd_backup_common.specs.declared.drafts.fault.SecondFault.TheVariants as seconds
use Rattle.cmd_backup_common.specs.Seconds.{StatesSecond, SecondCause as NoSecond}
use Rattle.cmd_backup_common.proofs.Causes.{same_backups, states_as}
use Rattle.cmd_types.specs.declared.stages.object.Object.TheVariants as objects
use Rattle.cmd_types.specs.declared.stages.halt.Halt.{Halt}
use Rattle.cmd_types.specs.declared.stages.halt.Halt.TheVariants.{Refused, Failed, NoMemory}
use Rattle.cmd_types.specs.Halts.{HaltCause, Only}
use Rattle.cmd_backup_common.specs.PartsFaults.{of_second}
use Rattle.cmd_backup_common.proofs.Makings.{Either}
use Rattle.cmd_backup_offline.specs.declared.fault.OfflineFault.{OfflineFault}
use Rattle.cmd_backup_offline.specs.declared.fault.OfflineFault.TheVariants as laters
use Rattle.cmd_backup_offline.specs.Basing.{base_label, BaseCause}
use Rattle.cmd_backup_offline.specs.Faults.{of_backup}
use Rattle.cmd_backup_offline.proofs.Causes.{of_backup_as}
use Rattle.cmd_backup_online.specs.Preparing.{SecondCause, PrepareCause}

module _ (stanza : Text) (kind : BackupKind) (known : Control) (a : ArchiveInfo) (b : BackupInfo) (now : Option Content) (used : List LinkState) where
  -- the manifest of the backup on which it is based isn't read
  pub base_stops : (list : BackupInfo) → Validates a b list → (least : ℕ) (repo clock : Type 0) (h : Halt OfflineFault) → HaltCause (BaseCause stanza now (base_label kind list)) (Only objects.Repo repo) h
      → HaltCause (PrepareCause stanza kind known a b now least used) (Either repo clock) h
  base_stops list settles least repo clock (Refused (laters.Take fault)) h = absurd h
  base_stops list settles least repo clock (Refused (laters.PriorDamaged text main copy)) h = (list, settles, h)
  base_stops list settles least repo clock (Failed object) h = subst (Either repo clock) (sym h.0) h.1
  base_stops list settles least repo clock NoMemory h = tt

  second_halt : (list : BackupInfo) → Validates a b list → (old new : ℕ) (clock new_clock : ClockState) (repo : Type 0) → (Rises old new → repo) → (fault : SecondFault) → NoSecond (StatesSecond stanza list now) fault old new clock new_clock
      → HaltCause (SecondCause known a b clock.least (StatesSecond stanza b now) used) (Either repo (Rises clock.faults new_clock.faults)) (of_second fault)
  second_halt list settles old new clock new_clock repo rose (seconds.ClockBehind latest second) h = (h.0, h.1, states_as stanza now latest b list (same_backups a b list settles) h.2)
  second_halt list settles old new clock new_clock repo rose seconds.Clock h = h
  second_halt list settles old new clock new_clock repo rose seconds.Disk h = rose h
  second_halt list settles old new clock new_clock repo rose seconds.NoMemory h = tt

  -- no second is given by which it is named
  pub second_stops : (list : BackupInfo) → Validates a b list → (old new : ℕ) (clock new_clock : ClockState) (repo : Type 0) → (Rises old new → repo) → (fault : SecondFault) → NoSecond (StatesSecond stanza list now) fault old new clock new_clock → (h : Halt OfflineFault) → h ≡ of_backup (of_second fault)
      → HaltCause (PrepareCause stanza kind known a b now clock.least used) (Either repo (Rises clock.faults new_clock.faults)) h
  second_stops list settles old new clock new_clock repo rose fault cause h is =
      let either = Either repo (Rises clock.faults new_clock.faults) in
      subst (HaltCause (PrepareCause stanza kind known a b now clock.least used) either) (sym is)
      (of_backup_as (SecondCause known a b clock.least (StatesSecond stanza b now) used) (PrepareCause stanza kind known a b now clock.least used) either either (λ e h. h) (λ object h. h) (of_second fault)
      (second_halt list settles old new clock new_clock repo rose fault cause))
