-- Why a part of a backup's command ends it: a word over its arguments and its devices, before and after. Own.
use Rattle.std.specs.Prelude.{List, map, IfSome}
use Rattle.base_devices.specs.declared.data_folder.FolderEntry as rust_seen
use Rattle.base_devices.specs.DataFolder.{IsTreeListing}
use Rattle.base_devices.specs.Links.{LinkState}
use Rattle.base_devices.specs.States.{ClockState, DataFolderState, DiskState, ClockFailed, DiskFailed, FolderFailed}
use Rattle.base_model.specs.declared.clusters.ArchiveInfo as rust_archive
use Rattle.base_model.specs.declared.clusters.BackupInfo as rust_backup
use Rattle.base_model.specs.Values.{archive_info_of, backup_info_of}
use Rattle.backup_plan.specs.Views.{seen_of}
use Rattle.repo_stanza.specs.declared.control.Control.{Control}
use Rattle.repo_stanza.specs.Judging.{Validates}
use Rattle.worker_pool.specs.declared.pool.Pool.{Pool}
use Rattle.worker_pool.specs.Pools.{links_in}
use Rattle.backup_make.specs.declared.draft.Draft.{Draft}
use Rattle.cmd_types.specs.declared.stages.halt.Halt.{Halt}
use Rattle.cmd_types.specs.declared.stages.object.Object.{Object}
use Rattle.cmd_types.specs.declared.stages.object.Object.TheVariants.{TheDataFolder}
use Rattle.cmd_types.specs.Halts.{HaltCause, Only}
use Rattle.cmd_types.specs.Risen.{none, rose_in}
use Rattle.cmd_backup_common.specs.declared.parts.fault.BackupFault.{BackupFault}
use Rattle.cmd_backup_common.specs.declared.parts.order.KnownStanza.{KnownStanza}
use Rattle.cmd_backup_common.specs.declared.parts.order.TakeOrder.{TakeOrder}
use Rattle.cmd_backup_common.specs.Beginning.{BeginCause, FitCause, RunningCause}
use Rattle.cmd_backup_common.specs.Making.{MakeCause}
use Rattle.cmd_backup_common.specs.Used.{used_in}

-- ---- what is looked at

-- the values of the two pairs validate to this list
abbrev pub ValidatesTo : rust_archive.ArchiveInfo → rust_backup.BackupInfo → rust_backup.BackupInfo → Type 0
ValidatesTo archive backup list = Validates (archive_info_of archive) (backup_info_of backup) (backup_info_of list)

-- these are all nodes of the folder, where they are known
abbrev pub ListsAll : DataFolderState → List rust_seen.FolderEntry → Type 0
ListsAll tree seen = IfSome tree.nodes (λ f. IsTreeListing f (map seen_of seen))

-- ---- why it ends

-- the repository or the clock failed
abbrev pub RepoOrClockFailed : DiskState → DiskState → ClockState → ClockState → Object → Type 0
RepoOrClockFailed repo new_repo clock new_clock =
    rose_in (record none { repo = DiskFailed repo new_repo; clock = ClockFailed clock new_clock })

-- the values don't fit together, or not to the cluster
abbrev pub FitHalts : Control → rust_archive.ArchiveInfo → rust_backup.BackupInfo → Halt BackupFault → Type 0
FitHalts known archive backup =
    HaltCause (FitCause known (archive_info_of archive) (backup_info_of backup)) (λ _. ⊥)

-- a server runs in the folder, or the folder failed
abbrev pub LookHalts : DataFolderState → DataFolderState → Halt BackupFault → Type 0
LookHalts old new = HaltCause (RunningCause old.nodes) (Only TheDataFolder (FolderFailed old new))

-- the command doesn't begin
abbrev pub BeginHalts : {L S T : Type 0} → TakeOrder → KnownStanza → (L → LinkState) → Pool L S
    → (T → DataFolderState) → T → T → Halt BackupFault → Type 0
BeginHalts order stanza of pool state before after = HaltCause
    (BeginCause stanza.control.now (archive_info_of stanza.archive.now) (backup_info_of stanza.backup)
    (state before).nodes (used_in order of pool))
    (Only TheDataFolder (FolderFailed (state before) (state after)))

-- the draft's backup isn't made
abbrev pub FinishHalts : {L S D C : Type 0} → Draft → (L → LinkState) → Pool L S → (D → DiskState) → D → D
    → (C → ClockState) → C → C → Halt BackupFault → Type 0
FinishHalts d of pool state before after clock first last = HaltCause
    (MakeCause d (links_in of pool) pool.lost.items)
    (RepoOrClockFailed (state before) (state after) (clock first) (clock last))
