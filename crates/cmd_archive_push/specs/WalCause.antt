-- Why the file that archive-push is given can't be read.
use Rattle.std.specs.Prelude.{◌≡◌, ◌≢◌, ◌<◌, ℕ, Option, None, length, IfSome, IsSomeAnd, string_bytes}
use Rattle.base_devices.specs.Cause.{Rises}
use Rattle.base_devices.specs.DataFolder.{Nodes, file_bytes}
use Rattle.base_devices.specs.States.{DataFolderState}
use Rattle.base_model.specs.declared.wal.ArchiveName.{ArchiveName}
use Rattle.base_model.specs.Text.{Text}
use Rattle.base_model.specs.Names.{wal_text}
use Rattle.base_model.specs.Represents.{IsWalName}
use Rattle.cmd_types.specs.declared.stages.halt.Halt.{Halt}
use Rattle.cmd_types.specs.declared.stages.object.Object.TheVariants.{TheDataFolder}
use Rattle.cmd_types.specs.Halts.{HaltCause, Only}
use Rattle.cmd_archive_push.specs.declared.fault.PushFault.{PushFault}
use Rattle.cmd_archive_push.specs.declared.fault.PushFault.TheVariants.{SegmentName, PathOutside, SegmentMissing, TooLong}
use Rattle.cmd_archive_push.specs.WalPath.{IsLastElement, wal_path, IsWalPath}

-- the argument isn't that of a file in the log's folder
abbrev pub WordCause : Text → Text → PushFault → Type 0
WordCause folder path (SegmentName word) = IsLastElement path (string_bytes word)
    × ((name : ArchiveName) → IsWalName name → string_bytes word ≢ wal_text name)
WordCause folder path (PathOutside word) = (string_bytes word ≡ path)
    × ((name : ArchiveName) → ¬ IsWalPath folder path name)
    × ((name : ArchiveName) × IsLastElement path (wal_text name))
WordCause folder path other = ⊥

-- the data folder doesn't have the file, or it is too long
abbrev pub FileCause : Text → Text → ℕ → Option Nodes → PushFault → Type 0
FileCause path name limit nodes (SegmentMissing word) = (string_bytes word ≡ path)
    × IfSome nodes (λ f. file_bytes (f (wal_path name)) ≡ None)
FileCause path name limit nodes (TooLong word most) = (string_bytes word ≡ wal_path name) × (most ≡ limit)
    × IfSome nodes (λ f. IsSomeAnd (file_bytes (f (wal_path name))) (λ b. limit < length b))
FileCause path name limit nodes other = ⊥

-- why it isn't opened between these states
abbrev pub OpenEnds : Text → Text → ℕ → DataFolderState → DataFolderState → Halt PushFault → Type 0
OpenEnds path name limit old new =
    HaltCause (FileCause path name limit old.nodes) (Only TheDataFolder (Rises old.faults new.faults))
