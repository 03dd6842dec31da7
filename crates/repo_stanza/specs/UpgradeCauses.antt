-- Why a cluster isn't added to a stanza.
use Rattle.std.specs.Prelude.{◌≡◌, ◌⊎◌, ◌<◌, ◌≤◌, length, string_bytes}
use Rattle.base_devices.specs.States.{DiskState, DiskFailed}
use Rattle.base_model.specs.declared.clusters.ArchiveInfo as rust_archive_info
use Rattle.base_model.specs.declared.clusters.BackupInfo as rust_backup_info
use Rattle.base_model.specs.Text.{Text}
use Rattle.base_model.specs.Names.{archive_info, backup_info}
use Rattle.base_model.specs.InfoFiles.{info_limit}
use Rattle.base_model.specs.Values.{ArchiveInfo, BackupInfo, archive_info_of, backup_info_of}
use Rattle.repo_pair.specs.declared.fault.SaveFault.{SaveFault}
use Rattle.repo_pair.specs.declared.fault.SaveFault.TheVariants.{Disk as SaveDisk, NoMemory as SaveNoMemory}
use Rattle.repo_stanza.specs.declared.control.Control.{Control}
use Rattle.repo_stanza.specs.declared.upgrade_fault.UpgradeFault.{UpgradeFault}
use Rattle.repo_stanza.specs.declared.upgrade_fault.UpgradeFault.TheVariants.{TooMany, TooLong, Disk, NoMemory}
use Rattle.repo_stanza.specs.Judging.{IsOf}
use Rattle.repo_stanza.specs.Upgrading.{most_clusters, longer_backup_text, longer_archive_text}

-- the history has no room for another cluster than its current one
abbrev pub IsFull : Control → ArchiveInfo → Type 0
IsFull known a = ¬ IsOf known a × (most_clusters ≤ length a.history)

-- the name is that of the first of the two texts that is too long, the backup pair's before the archive pair's
abbrev pub IsFirstLong : Text → Text → Text → Text → Type 0
IsFirstLong stanza backup archive name = ((name ≡ backup_info stanza) × (info_limit < length backup))
    ⊎ ((name ≡ archive_info stanza) × (length backup ≤ info_limit) × (info_limit < length archive))

-- Why upgrade gives this fault, from the values of the two pairs, and whether the disk's count of faults rose.
abbrev pub UpgradeCause : Text → Control → ArchiveInfo → BackupInfo → Type 0 → UpgradeFault → Type 0
UpgradeCause stanza known a w rose (TooMany limit) = (limit ≡ most_clusters) × IsFull known a
UpgradeCause stanza known a w rose (TooLong name limit) = (limit ≡ info_limit) × ¬ IsOf known a
    × (length a.history < most_clusters)
    × IsFirstLong stanza (longer_backup_text known a w) (longer_archive_text known a) (string_bytes name)
UpgradeCause stanza known a w rose Disk = rose
UpgradeCause stanza known a w rose NoMemory = Unit {0}

-- the same from one state of the disk to another, of the code's values
abbrev pub UpgradeFails : Text → Control → rust_archive_info.ArchiveInfo → rust_backup_info.BackupInfo → DiskState
    → DiskState → UpgradeFault → Type 0
UpgradeFails stanza known a w old new e =
    UpgradeCause stanza known (archive_info_of a) (backup_info_of w) (DiskFailed old new) e

-- what holds where it is refused for a limit
abbrev pub OnLimit : UpgradeFault → Type 0 → Type 0
OnLimit (TooMany limit) P = P
OnLimit (TooLong name limit) P = P
OnLimit Disk P = Unit {0}
OnLimit NoMemory P = Unit {0}

-- which fault it is that a pair couldn't be saved
abbrev pub upgrade_fault_of : SaveFault → UpgradeFault
upgrade_fault_of SaveDisk = Disk
upgrade_fault_of SaveNoMemory = NoMemory
