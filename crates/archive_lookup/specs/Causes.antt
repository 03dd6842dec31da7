-- Why a file isn't stored or isn't got, and which answers leave the disk unchanged.
use Rattle.std.specs.Prelude.{◌≡◌, ◌≢◌, ◌<◌, ◌^◌, ℕ, List, length, Option, Some, None, IfSome, IsSomeAnd, Result, MatchResult, string_bytes}
use Rattle.sha1.specs.Sha1.{sha1}
use Rattle.base_devices.specs.Content.{Content}
use Rattle.base_devices.specs.States.{DiskState, DiskFailed}
use Rattle.base_model.specs.declared.wal.ArchiveId.{ArchiveId}
use Rattle.base_model.specs.declared.wal.ArchiveName.{ArchiveName}
use Rattle.base_model.specs.declared.wal.ArchiveName.TheVariants.{Segment as Whole, Partial, History, Backup}
use Rattle.base_model.specs.Text.{Text, In}
use Rattle.base_model.specs.Repository.{Archived}
use Rattle.repo_names.specs.declared.wal.header.HeaderFault.TheVariants.{Form, Size, System}
use Rattle.repo_names.specs.Header.{IsOfSystem, IsRefused}
use Rattle.archive_lookup.specs.declared.stored.fault.ArchiveFault.{ArchiveFault}
use Rattle.archive_lookup.specs.declared.stored.fault.ArchiveFault.TheVariants.{HeaderForm, SegmentSize, HeaderMismatch, Ambiguous, Duplicate, NotFound, SegmentDamaged, TooLong, TooMany, Disk, NoMemory}
use Rattle.archive_lookup.specs.declared.stored.files.Stored.{Stored}
use Rattle.archive_lookup.specs.declared.stored.stored_lookup.StoredFile.{StoredFile}
use Rattle.archive_lookup.specs.Stored.{archive_path, StoresNone, StoresOnly, StoresTwo, AreStored}

-- ---- a push

-- the file begins with a header: it is a whole or a partial segment
abbrev pub HasHeader : ArchiveName → Type 0
HasHeader (Whole segment) = Unit {0}
HasHeader (Partial segment) = Unit {0}
HasHeader (History timeline) = ⊥
HasHeader (Backup segment offset) = ⊥

-- the bytes are a segment of the cluster with this system identifier
abbrev pub IsSegmentOf : Text → ℕ → Type 0
IsSegmentOf bytes system = (size : ℕ) × IsOfSystem bytes system size

-- the bytes may be those of a file of this name, in the cluster with this system identifier
abbrev pub IsFileOf : ArchiveName → Text → ℕ → Type 0
IsFileOf (Whole segment) bytes system = IsSegmentOf bytes system
IsFileOf (Partial segment) bytes system = IsSegmentOf bytes system
IsFileOf (History timeline) bytes system = Unit {0}
IsFileOf (Backup segment offset) bytes system = Unit {0}

-- why they aren't
abbrev pub HeaderCause : ArchiveName → Text → ℕ → ArchiveFault → Type 0
HeaderCause name bytes system (HeaderForm info) = HasHeader name × IsRefused bytes system (Form (length bytes) info)
HeaderCause name bytes system (SegmentSize known found) = HasHeader name × IsRefused bytes system (Size known found)
HeaderCause name bytes system (HeaderMismatch kept found) = HasHeader name × IsRefused bytes system (System kept found)
HeaderCause name bytes system fault = ⊥

-- the longest file of this name that is read: 1 GiB of a segment, 1 MiB of another file
abbrev pub limit_of : ArchiveName → ℕ
limit_of (Whole segment) = 2 ^ 30
limit_of (Partial segment) = 2 ^ 30
limit_of (History timeline) = 2 ^ 20
limit_of (Backup segment offset) = 2 ^ 20

-- f stores the file with one sum alone, at this path, and it is longer than the limit
abbrev pub StoresLong : Text → ArchiveId → ArchiveName → Content → Text → ℕ → Type 0
StoresLong stanza id name f path limit = (sum : Text) × StoresOnly stanza id name f sum
    × (path ≡ archive_path stanza id name sum) × IsSomeAnd (f path) (λ bytes. limit < length bytes)

-- why a file isn't stored, from its bytes, from what the disk held, and from whether the disk's count of faults rose
abbrev pub PushCause : Text → ArchiveId → ArchiveName → ℕ → Text → Option Content → Type 0 → ArchiveFault → Type 0
PushCause stanza id name system bytes now rose (HeaderForm info) = HeaderCause name bytes system (HeaderForm info)
PushCause stanza id name system bytes now rose (SegmentSize known found) =
    HeaderCause name bytes system (SegmentSize known found)
PushCause stanza id name system bytes now rose (HeaderMismatch kept found) =
    HeaderCause name bytes system (HeaderMismatch kept found)
PushCause stanza id name system bytes now rose (Ambiguous first second) = IsFileOf name bytes system
    × IfSome now (λ f. StoresTwo stanza id name f (string_bytes first) (string_bytes second))
PushCause stanza id name system bytes now rose (Duplicate kept found) = IsFileOf name bytes system
    × (found.0 ≡ sha1 bytes) × (found.0 ≢ kept.0) × IfSome now (λ f. StoresOnly stanza id name f kept.0)
PushCause stanza id name system bytes now rose (TooLong path limit) = ¬ HasHeader name × (limit ≡ limit_of name)
    × IfSome now (λ f. StoresLong stanza id name f (string_bytes path) limit)
PushCause stanza id name system bytes now rose Disk = IsFileOf name bytes system × rose
PushCause stanza id name system bytes now rose NoMemory = IsFileOf name bytes system
PushCause stanza id name system bytes now rose fault = ⊥

-- the same on this disk
abbrev pub Rejects : Text → ArchiveId → ArchiveName → ℕ → Text → DiskState → DiskState → ArchiveFault → Type 0
Rejects stanza id name system bytes old new fault =
    PushCause stanza id name system bytes old.view.now (DiskFailed old new) fault

-- ---- a file that is got

-- f stores the file with one sum alone, and at its path these bytes
pub record StoresBytes (stanza : Text) (id : ArchiveId) (name : ArchiveName) (f : Content) (sum bytes : Text) : Type
    0 where
  pub only : StoresOnly stanza id name f sum
  pub lies : f (archive_path stanza id name sum) ≡ Some bytes

-- the sum of the stored bytes is another than its name states
abbrev pub IsDamaged : Text → ArchiveId → ArchiveName → Content → Text → Text → Type 0
IsDamaged stanza id name f known found = (bytes : Text) × StoresBytes stanza id name f known bytes × (sha1 bytes ≡
    found)

-- why a file isn't got
abbrev pub GetCause : Text → ArchiveId → ArchiveName → Option Content → Type 0 → ArchiveFault → Type 0
GetCause stanza id name now rose (Ambiguous first second) =
    IfSome now (λ f. StoresTwo stanza id name f (string_bytes first) (string_bytes second))
GetCause stanza id name now rose NotFound = IfSome now (StoresNone stanza id name)
GetCause stanza id name now rose (SegmentDamaged known found) = (found.0 ≢ known.0)
    × IfSome now (λ f. IsDamaged stanza id name f known.0 found.0)
GetCause stanza id name now rose (TooLong path limit) = (limit ≡ limit_of name)
    × IfSome now (λ f. StoresLong stanza id name f (string_bytes path) limit)
GetCause stanza id name now rose Disk = rose
GetCause stanza id name now rose NoMemory = Unit {0}
GetCause stanza id name now rose fault = ⊥

-- the same on this disk
abbrev pub GetFails : Text → ArchiveId → ArchiveName → DiskState → DiskState → ArchiveFault → Type 0
GetFails stanza id name old new fault = GetCause stanza id name old.view.now (DiskFailed old new) fault

-- no file of this id and name is archived
abbrev pub IsUnarchived : ArchiveId → ArchiveName → List Archived → Type 0
IsUnarchived id name files = (a : Archived) → In a files → a.id ≡ id → a.name ≢ name

-- why a path that was found isn't read
abbrev pub ReadCause : StoredFile → Option Content → Type 0 → ArchiveFault → Type 0
ReadCause kept now rose NotFound = IfSome now (λ f. f (string_bytes kept.path) ≡ None)
ReadCause kept now rose (SegmentDamaged known found) = (known.0 ≡ kept.sum.0) × (found.0 ≢ known.0)
    × IfSome now (λ f. IsSomeAnd (f (string_bytes kept.path)) (λ bytes. sha1 bytes ≡ found.0))
ReadCause kept now rose (TooLong path limit) = (string_bytes path ≡ string_bytes kept.path) × (limit ≡ 2 ^ 30)
    × IfSome now (λ f. IsSomeAnd (f (string_bytes kept.path)) (λ bytes. limit < length bytes))
ReadCause kept now rose Disk = rose
ReadCause kept now rose NoMemory = Unit {0}
ReadCause kept now rose fault = ⊥

-- the same on this disk
abbrev pub ReadFails : StoredFile → DiskState → DiskState → ArchiveFault → Type 0
ReadFails kept old new fault = ReadCause kept old.view.now (DiskFailed old new) fault

-- ---- what is stored

-- why it isn't known whether a file is stored
abbrev pub PresentCause : Text → ArchiveId → ArchiveName → Option Content → Type 0 → ArchiveFault → Type 0
PresentCause stanza id name now rose (Ambiguous first second) =
    IfSome now (λ f. StoresTwo stanza id name f (string_bytes first) (string_bytes second))
PresentCause stanza id name now rose (TooLong path limit) = ¬ HasHeader name × (limit ≡ limit_of name)
    × IfSome now (λ f. StoresLong stanza id name f (string_bytes path) limit)
PresentCause stanza id name now rose Disk = rose
PresentCause stanza id name now rose NoMemory = Unit {0}
PresentCause stanza id name now rose fault = ⊥

-- the same on this disk
abbrev pub PresentFails : Text → ArchiveId → ArchiveName → DiskState → DiskState → ArchiveFault → Type 0
PresentFails stanza id name old new fault = PresentCause stanza id name old.view.now (DiskFailed old new) fault

-- the most files that are listed
abbrev pub most_files : ℕ
most_files = 4000000

-- why the stored files aren't known
abbrev pub AllCause : Text → Option Content → Type 0 → ArchiveFault → Type 0
AllCause stanza now rose (TooMany limit) = (limit ≡ most_files)
    × IfSome now (λ f. (files : List Stored) × AreStored stanza f files × (limit < length files))
AllCause stanza now rose Disk = rose
AllCause stanza now rose NoMemory = Unit {0}
AllCause stanza now rose fault = ⊥

-- the same on this disk
abbrev pub ListingFails : Text → DiskState → DiskState → ArchiveFault → Type 0
ListingFails stanza old new fault = AllCause stanza old.view.now (DiskFailed old new) fault

-- ---- all of them

-- this holds where the fault is what was found, not a failure of the disk and not out of memory
abbrev pub OnFinding : ArchiveFault → Type 0 → Type 0
OnFinding Disk P = Unit {0}
OnFinding NoMemory P = Unit {0}
OnFinding fault P = P

-- this holds where the call answers, or reports what it found
abbrev pub OnAnswer : {T : Type 0} → Result T ArchiveFault → Type 0 → Type 0
OnAnswer result P = MatchResult result (λ _. P) (λ e. OnFinding e P)

-- why the ends aren't known
abbrev pub EndsCause : Type 0 → ArchiveFault → Type 0
EndsCause rose Disk = rose
EndsCause rose NoMemory = Unit {0}
EndsCause rose fault = ⊥
