-- A backup on its basis: what the code plans of it and reads for it, and why that ends early. Own.
use Rattle.std.specs.Prelude.{◌≡◌, ℕ, Bool, List, map, Option, option_map, String, string_bytes, Vec}
use Rattle.std.specs.declared.alloc.Global.{Global}
use Rattle.base_devices.specs.declared.data_folder.FolderEntry as rust_seen
use Rattle.base_devices.specs.Links.{LinkState}
use Rattle.base_devices.specs.States.{ClockState, DiskState, DiskFailed, ShowsSecond}
use Rattle.base_model.specs.declared.clusters.BackupInfo as rust_backup
use Rattle.base_model.specs.declared.files.FileEntry as rust_entry
use Rattle.base_model.specs.declared.files.Manifest as rust_manifest
use Rattle.base_model.specs.declared.labels.BackupKind.{BackupKind}
use Rattle.base_model.specs.Text.{Text}
use Rattle.base_model.specs.Values.{FileEntry, backup_info_of, file_entry_of, manifest_of}
use Rattle.worker_protocol.specs.declared.sinks.ItemEnd.{ItemEnd}
use Rattle.worker_pool.specs.declared.pool.Pool.{Pool}
use Rattle.worker_pool.specs.Pools.{links_in}
use Rattle.backup_plan.specs.declared.values.Listing.{Listing}
use Rattle.backup_plan.specs.declared.values.Taken as rust_taken
use Rattle.backup_plan.specs.Views.{seen_of, taken_files, taken_folders, taken_of}
use Rattle.backup_make.specs.declared.draft.Draft.{Draft}
use Rattle.cmd_types.specs.declared.stages.halt.Halt.{Halt}
use Rattle.cmd_types.specs.declared.stages.object.Object.TheVariants.{Repo}
use Rattle.cmd_types.specs.Halts.{HaltCause, Only}
use Rattle.cmd_backup_common.specs.declared.parts.fault.BackupFault.{BackupFault}
use Rattle.cmd_backup_common.specs.Seconds.{StatesSecond}
use Rattle.cmd_backup_common.specs.Halting.{RepoOrClockFailed}
use Rattle.cmd_backup_offline.specs.declared.fault.OfflineFault.{OfflineFault}
use Rattle.cmd_backup_offline.specs.declared.order.BackupBasis.{BackupBasis}
use Rattle.cmd_backup_offline.specs.Basing.{base_in, base_label, BaseCause, ReadsBase}
use Rattle.cmd_backup_offline.specs.Drafting.{IsDraftedBy, IsOfflineBy, IsOfflineWith, MayBase, StopCause}
use Rattle.cmd_backup_offline.specs.Equal.{AreMarked, EqualCause, marks_of}
use Rattle.cmd_backup_offline.specs.Making.{BeginsFrom}
use Rattle.cmd_backup_offline.specs.Texts.{offline_lines}

-- ---- the manifest of the backup on which it is based

-- it is read of the listed one that the kind asks for, where there is one
abbrev pub LoadsBase : Text → BackupKind → rust_backup.BackupInfo → DiskState → Option rust_manifest.Manifest → Type 0
LoadsBase stanza kind list repo manifest =
    ReadsBase stanza repo.view.now (base_label kind (backup_info_of list)) (option_map manifest_of manifest)

-- why it isn't read
abbrev pub BaseHalts : Text → BackupKind → rust_backup.BackupInfo → DiskState → DiskState → Halt OfflineFault → Type 0
BaseHalts stanza kind list old new = HaltCause
    (BaseCause stanza old.view.now (base_label kind (backup_info_of list))) (Only Repo (DiskFailed old new))

-- ---- the basis

-- the files of the basis
abbrev pub basis_files : BackupBasis → List FileEntry
basis_files b = map file_entry_of b.old.now

-- they may be those of the listed backup that the order asks for
abbrev pub MayBeBasis : BackupBasis → rust_backup.BackupInfo → Type 0
MayBeBasis b list = MayBase (base_in b.order.kind (backup_info_of list)) (basis_files b)

-- the list and the files are those that the disk holds
abbrev pub IsBasisAt : BackupBasis → rust_backup.BackupInfo → DiskState → Type 0
IsBasisAt b list repo = BeginsFrom b.stanza.now b.order repo.view.now (backup_info_of list) (basis_files b)

-- ---- which files are equal

-- the marks of all files, by how their digest jobs ended
abbrev pub marks_for : List rust_entry.FileEntry → List rust_taken.Taken → List (Option ItemEnd) → List Bool
marks_for old files ends = marks_of (map file_entry_of old) (map taken_of files) ends

-- each file of the listing has its mark, as the pool's links reported
abbrev pub MarksFiles : {L S : Type 0} → (L → LinkState) → Pool L S → List rust_entry.FileEntry → Listing
    → Vec Bool Global → Type 0
MarksFiles of pool old listing equal =
    AreMarked (links_in of pool) (map file_entry_of old) (taken_files listing) equal.items

-- why they didn't report
abbrev pub EqualHalts : {L S : Type 0} → (L → LinkState) → Pool L S → List rust_entry.FileEntry → Listing
    → Halt BackupFault → Type 0
EqualHalts of pool old listing = HaltCause
    (EqualCause (links_in of pool) pool.lost.items (map file_entry_of old) (taken_files listing)) (λ _. ⊥)

-- ---- the draft

-- it is of this listing, with these marks
abbrev pub IsDraftBy : BackupBasis → rust_backup.BackupInfo → ℕ → List Bool → Listing → Draft → Type 0
IsDraftBy b list second equal listing d =
    IsOfflineBy b.stanza.now b.order (backup_info_of list) (basis_files b) second equal listing d

-- it is of whatever nodes the listing was taken
abbrev pub IsDraftOfTaken : BackupBasis → rust_backup.BackupInfo → ℕ → Listing → Draft → Type 0
IsDraftOfTaken b list second listing d =
    IsOfflineWith b.stanza.now b.order (taken_files listing) (taken_folders listing) (backup_info_of list)
    (basis_files b) second d

-- it is of these nodes of a stopped server's folder, with marks that the pool's links reported, and begins in a second
-- that the clock showed
abbrev pub IsDraftOver : {L S C : Type 0} → BackupBasis → rust_backup.BackupInfo → List rust_seen.FolderEntry
    → (L → LinkState) → Pool L S → (C → ClockState) → C → C → Draft → Type 0
IsDraftOver b list seen of pool clock first last d = (second : ℕ)
    × IsDraftedBy b.stanza.now b.order (map seen_of seen) (backup_info_of list) (basis_files b) second
    (links_in of pool) d × ShowsSecond second (clock first) (clock last)

-- these lines state its kind and its label
abbrev pub AreLinesOf : BackupBasis → rust_backup.BackupInfo → Draft → String Global → Type 0
AreLinesOf b list d lines =
    string_bytes lines ≡ offline_lines b.order.kind (base_in b.order.kind (backup_info_of list)) d.label

-- why there is none
abbrev pub DraftHalts : {L S D C : Type 0} → BackupBasis → rust_backup.BackupInfo → List rust_seen.FolderEntry
    → (L → LinkState) → Pool L S → (D → DiskState) → D → D → (C → ClockState) → C → C → Halt BackupFault → Type 0
DraftHalts b list seen of pool state before after clock first last = HaltCause
    (StopCause (map seen_of seen) (clock first).least
    (StatesSecond b.stanza.now (backup_info_of list) (state before).view.now) (links_in of pool) pool.lost.items
    (basis_files b))
    (RepoOrClockFailed (state before) (state after) (clock first) (clock last))
