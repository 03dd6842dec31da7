-- Why a drain ends before its end.
use Rattle.std.specs.Prelude.{◌≡◌, ◌⊎◌, ◌<◌, ℕ, Bool, true, false, Result, Ok, Err, List, Option, length, IfSome, IsSomeAnd, string_bytes}
use Rattle.base_devices.specs.Content.{Content}
use Rattle.base_devices.specs.DataFolder.{Nodes, file_bytes}
use Rattle.base_model.specs.declared.wal.ArchiveId.{ArchiveId}
use Rattle.base_model.specs.declared.wal.ArchiveName.{ArchiveName}
use Rattle.base_model.specs.Names.{wal_text}
use Rattle.base_model.specs.Text.{Text, In}
use Rattle.archive_lookup.specs.Causes.{limit_of, StoresLong}
use Rattle.archive_lookup.specs.Stored.{StoresTwo}
use Rattle.base_disk.specs.declared.fault.StoreFault.{StoreFault}
use Rattle.base_disk.specs.declared.fault.StoreFault.TheVariants.{Disk as StoreDisk, TooLong as StoreLong, NoMemory as StoreMemory}
use Rattle.cmd_types.specs.declared.stages.halt.Halt.{Halt}
use Rattle.cmd_types.specs.declared.stages.halt.Halt.TheVariants.{Refused, Failed, NoMemory}
use Rattle.cmd_types.specs.declared.stages.object.Object.TheVariants.{Spool}
use Rattle.cmd_types.specs.Risen.{Rose, none}
use Rattle.cmd_archive_push.specs.declared.fault.PushFault.{PushFault}
use Rattle.cmd_archive_push.specs.declared.fault.PushFault.TheVariants.{SegmentMissing, TooLong, Ambiguous}
use Rattle.cmd_archive_push.specs.WalPath.{wal_path}
use Rattle.cmd_archive_push_async.specs.declared.files.push_marks.Drained.{Drained}

-- the data folder's file lies at this path and has more bytes than the limit
abbrev pub IsLongFile : Option Nodes → ArchiveName → Text → ℕ → Type 0
IsLongFile nodes name path limit = (path ≡ wal_path (wal_text name))
    × IfSome nodes (λ f. IsSomeAnd (file_bytes (f path)) (λ b. limit < length b))

-- the file of this name ends the drain so: it is too long, or it is stored twice
abbrev pub EndCause : Text → ArchiveId → Option Nodes → Option Content → ArchiveName → PushFault → Type 0
EndCause stanza id nodes now name (TooLong path limit) = (limit ≡ limit_of name)
    × (IsLongFile nodes name (string_bytes path) limit
    ⊎ IfSome now (λ f. StoresLong stanza id name f (string_bytes path) limit))
EndCause stanza id nodes now name (Ambiguous first second) =
    IfSome now (λ f. StoresTwo stanza id name f (string_bytes first) (string_bytes second))
EndCause stanza id nodes now name other = ⊥

-- one of these files ends it so
abbrev pub EndCauseOf : Text → ArchiveId → Option Nodes → Option Content → List ArchiveName → PushFault → Type 0
EndCauseOf stanza id nodes now names fault = (name : ArchiveName) × In name names
    × EndCause stanza id nodes now name fault

-- the counts of the repository, of the spool and of the data folder that rose
abbrev pub three : Type 0 → Type 0 → Type 0 → Rose
three repo spool tree = record none { repo = repo; spool = spool; tree = tree }

-- how a call of the spool ends the drain
abbrev pub halt_of_spool : StoreFault → Halt PushFault
halt_of_spool StoreDisk = Failed Spool
halt_of_spool (StoreLong name limit) = NoMemory
halt_of_spool StoreMemory = NoMemory

-- the file isn't there
abbrev pub is_missing : Halt PushFault → Bool
is_missing (Refused (SegmentMissing path)) = true
is_missing other = false

-- a file that isn't there is passed over, and counts nothing; every other end is the drain's
abbrev pub SkipsMissing : Halt PushFault → Result Drained (Halt PushFault) → Type 0
SkipsMissing halt (Ok drained) = (is_missing halt ≡ true) × (drained.pushed ≡ 0) × (drained.refused ≡ 0)
SkipsMissing halt (Err end) = (is_missing halt ≡ false) × (end ≡ halt)
