-- What a disk answers of a file that is got or looked for.
use Rattle.std.specs.Prelude.{◌≡◌, Bool, Option, Some, IfSome, IsSome, string_bytes}
use Rattle.sha1.specs.Sha1.{sha1}
use Rattle.base_devices.specs.Crash.{IsAlikeAt}
use Rattle.base_devices.specs.States.{DiskState}
use Rattle.base_model.specs.declared.wal.ArchiveId.{ArchiveId}
use Rattle.base_model.specs.declared.wal.ArchiveName.{ArchiveName}
use Rattle.base_model.specs.Now.{NowRepresents}
use Rattle.base_model.specs.Repository.{Stanza}
use Rattle.base_model.specs.Text.{Text, In}
use Rattle.base_model.specs.Walks.{IsSynced}
use Rattle.archive_lookup.specs.declared.stored.fault.ArchiveFault.{ArchiveFault}
use Rattle.archive_lookup.specs.declared.stored.files.Stored.{Stored}
use Rattle.archive_lookup.specs.declared.stored.names.FileNames.{FileNames}
use Rattle.archive_lookup.specs.declared.stored.stored_lookup.StoredFile.{StoredFile}
use Rattle.archive_lookup.specs.Causes.{StoresBytes, GetFails, IsUnarchived}
use Rattle.archive_lookup.specs.OnlyReads.{AreNamesOf}
use Rattle.archive_lookup.specs.Paths.{has_sum}
use Rattle.archive_lookup.specs.Stored.{archived_file, Finds}
use Rattle.archive_store.specs.Pushes.{IsPathOf}

-- ---- by the names of a file, which has a sum in its paths or not

-- the disk stores these bytes as the file
abbrev pub HasStored : FileNames → Bool → DiskState → Text → Type 0
HasStored names summed disk bytes = IfSome disk.view.now (λ f. (stanza : Text) (id : ArchiveId) (name : ArchiveName)
    → AreNamesOf stanza id name names → has_sum name ≡ summed → StoresBytes stanza id name f (sha1 bytes) bytes)

-- why it isn't got
abbrev pub GetFailsOf : FileNames → Bool → DiskState → DiskState → ArchiveFault → Type 0
GetFailsOf names summed old new fault = (stanza : Text) (id : ArchiveId) (name : ArchiveName)
    → AreNamesOf stanza id name names → has_sum name ≡ summed → GetFails stanza id name old new fault

-- the disk has these bytes at the path that was found, and they have its sum
abbrev pub HasBytesOf : StoredFile → DiskState → Text → Type 0
HasBytesOf kept disk bytes = (sha1 bytes ≡ kept.sum.0)
    × IfSome disk.view.now (λ f. f (string_bytes kept.path) ≡ Some bytes)

-- ---- by its name

-- the disk stores these bytes as the file, under no sum but theirs
abbrev pub StoresFile : Text → ArchiveId → ArchiveName → DiskState → Text → Type 0
StoresFile stanza id name disk bytes = IfSome disk.view.now (λ f. StoresBytes stanza id name f (sha1 bytes) bytes)

-- the file is stored so, or isn't
abbrev pub FindsFile : Text → ArchiveId → ArchiveName → DiskState → Option Stored → Type 0
FindsFile stanza id name disk file = IfSome disk.view.now (λ f. Finds stanza id name f file)

-- of a repository that the disk represents, the file of these bytes is archived
abbrev pub HasArchived : Text → ArchiveId → ArchiveName → DiskState → Text → Type 0
HasArchived stanza id name disk bytes = (s : Stanza) → IsSome disk.view.now
    → NowRepresents stanza (Some s) disk.view.now → In (archived_file id name bytes) s.archived

-- none of this name is
abbrev pub HasNoneOf : Text → ArchiveId → ArchiveName → DiskState → Type 0
HasNoneOf stanza id name disk = (s : Stanza) → IsSome disk.view.now
    → NowRepresents stanza (Some s) disk.view.now → IsUnarchived id name s.archived

-- where nothing that is looked at was unsynced, all that a crash leaves is alike at the file's paths
abbrev pub MakesAlike : Text → ArchiveId → ArchiveName → DiskState → DiskState → Type 0
MakesAlike stanza id name old new = IsSynced stanza old.view → IsSome old.view.now
    → IsAlikeAt (IsPathOf stanza id name) new.view
