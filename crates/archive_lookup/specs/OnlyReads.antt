-- Where a file lies, and what a look there shows.
use Rattle.std.specs.Prelude.{◌≡◌, ◌⊎◌, ◌<◌, ◌^◌, Bool, true, false, List, [], ◌∷◌, ◌++◌, Option, IfSome, IsSomeAnd, codes, length, option_map, string_bytes}
use Rattle.base_text.specs.Sum.{sum_text}
use Rattle.base_devices.specs.Content.{Name, Content, LiesDirectlyIn}
use Rattle.base_devices.specs.States.{DiskState, DiskFailed}
use Rattle.base_model.specs.declared.wal.ArchiveId.{ArchiveId}
use Rattle.base_model.specs.declared.wal.ArchiveName.{ArchiveName}
use Rattle.base_model.specs.declared.wal.ArchiveName.TheVariants.{Segment as Whole, Partial, History, Backup}
use Rattle.base_model.specs.Text.{Text, ◌⫽◌}
use Rattle.base_model.specs.Names.{archive_folder, id_text, segment_folder, wal_text}
use Rattle.archive_lookup.specs.declared.stored.names.FileNames.{FileNames}
use Rattle.archive_lookup.specs.declared.stored.files.Stored.{Stored}
use Rattle.archive_lookup.specs.declared.stored.stored_lookup.StoredFile.{StoredFile}
use Rattle.archive_lookup.specs.declared.stored.stored_lookup.Look.{Look}
use Rattle.archive_lookup.specs.declared.stored.stored_lookup.Look.TheVariants.{Free, One, Two}
use Rattle.archive_lookup.specs.declared.stored.fault.ArchiveFault.{ArchiveFault}
use Rattle.archive_lookup.specs.declared.stored.fault.ArchiveFault.TheVariants.{TooLong, Disk, NoMemory}
use Rattle.archive_lookup.specs.Stored.{archive_path, known_sum, StoresNone, StoresOnly, StoresTwo}
use Rattle.archive_lookup.specs.Paths.{has_sum}

-- ---- where it lies

-- the folder of a file's paths
abbrev pub file_place : Text → ArchiveId → ArchiveName → Text
file_place stanza id (Whole segment) = archive_folder stanza ⫽ id_text id ⫽ segment_folder segment
file_place stanza id (Partial segment) = archive_folder stanza ⫽ id_text id ⫽ segment_folder segment
file_place stanza id (History timeline) = archive_folder stanza ⫽ id_text id
file_place stanza id (Backup segment offset) = archive_folder stanza ⫽ id_text id ⫽ segment_folder segment

-- what is between the file's name and its sum
abbrev pub dash : Bool → Text
dash true = codes "-"
dash false = []

abbrev pub sum_digits : Bool → Text → Text
sum_digits true sum = sum_text sum
sum_digits false sum = []

-- what each of a file's paths begins with; where it has no sum, the path
abbrev pub file_prefix : Text → ArchiveId → ArchiveName → Text
file_prefix stanza id name = file_place stanza id name ⫽ (wal_text name ++ dash (has_sum name))

-- the names are those of the file
pub record AreNamesOf (stanza : Text) (id : ArchiveId) (name : ArchiveName) (names : FileNames) : Type 0 where
  pub folder : string_bytes names.folder ≡ file_place stanza id name
  pub prefix : string_bytes names.prefix ≡ file_prefix stanza id name
  pub temporary : string_bytes names.temporary ≡ file_place stanza id name ⫽ codes ".pgbackrest.tmp"
  pub summed : names.has_sum ≡ has_sum name

-- a name directly in the folder of the file's paths
abbrev pub LiesBeside : FileNames → Name → Type 0
LiesBeside names n = LiesDirectlyIn (string_bytes names.folder) n

-- the path with this sum
abbrev pub path_with : FileNames → Text → Text
path_with names sum = string_bytes names.prefix ++ sum_digits names.has_sum sum

-- ---- what is seen

-- f stores the file with one sum alone, at this path and of this length
pub record ShowsOne (stanza : Text) (id : ArchiveId) (name : ArchiveName) (f : Content) (kept : StoredFile) : Type 0
  where
    pub only : StoresOnly stanza id name f kept.sum.0
    pub path : string_bytes kept.path ≡ archive_path stanza id name kept.sum.0
    pub size : IsSomeAnd (f (string_bytes kept.path)) (λ bytes. length bytes ≡ kept.size)

-- what a look at f shows of the file
abbrev pub Shows : Text → ArchiveId → ArchiveName → Content → Look → Type 0
Shows stanza id name f Free = StoresNone stanza id name f
Shows stanza id name f (One kept) = ShowsOne stanza id name f kept
Shows stanza id name f (Two first second) = StoresTwo stanza id name f (string_bytes first) (string_bytes second)

-- what a look at this disk shows of the file that has these names, where what it holds is known
abbrev pub LookShows : FileNames → DiskState → Look → Type 0
LookShows names disk look = IfSome disk.view.now (λ f. (stanza : Text) (id : ArchiveId) (name : ArchiveName)
    → AreNamesOf stanza id name names → Shows stanza id name f look)

-- the same, where its path has a sum
abbrev pub LookShowsSegment : FileNames → DiskState → Look → Type 0
LookShowsSegment names disk look = IfSome disk.view.now (λ f. (stanza : Text) (id : ArchiveId) (name : ArchiveName)
    → AreNamesOf stanza id name names → has_sum name ≡ true → Shows stanza id name f look)

-- the two state the same
pub record IsAlike (one other : StoredFile) : Type 0 where
  pub path : string_bytes one.path ≡ string_bytes other.path
  pub sum : one.sum ≡ other.sum
  pub size : one.size ≡ other.size

-- one path is known
abbrev pub IsOne : StoredFile → Look → Type 0
IsOne kept Free = ⊥
IsOne kept (One one) = IsAlike one kept
IsOne kept (Two first second) = ⊥

-- two paths are known
abbrev pub IsTwo : StoredFile → StoredFile → Look → Type 0
IsTwo first second Free = ⊥
IsTwo first second (One kept) = ⊥
IsTwo first second (Two one other) = (string_bytes one ≡ string_bytes first.path)
    × (string_bytes other ≡ string_bytes second.path)

-- what is known of the paths that were kept, in byte order
abbrev pub LooksLike : List StoredFile → Look → Type 0
LooksLike [] look = look ≡ Free
LooksLike (one ∷ []) look = IsOne one look
LooksLike (first ∷ second ∷ others) look = IsTwo first second look

-- the path that was kept, as a stored file
pub record IsStoredAs (id : ArchiveId) (name : ArchiveName) (kept : StoredFile) (file : Stored) : Type 0 where
  pub of_id : file.id ≡ id
  pub of_name : file.name ≡ name
  pub sum : option_map (λ s. s.0) file.sum ≡ known_sum name kept.sum.0
  pub size : file.size ≡ kept.size
  pub path : string_bytes file.path ≡ string_bytes kept.path

-- ---- why nothing is seen

-- the disk failed, or memory did
abbrev pub IsDeviceFault : ArchiveFault → Type 0
IsDeviceFault fault = (fault ≡ Disk) ⊎ (fault ≡ NoMemory)

-- why a look fails: a file without a sum is read, and is longer than its limit
abbrev pub LookCause : FileNames → Option Content → Type 0 → ArchiveFault → Type 0
LookCause names now rose (TooLong path limit) = (names.has_sum ≡ false) × (string_bytes path ≡ string_bytes
    names.prefix)
    × (limit ≡ 2 ^ 20)
    × IfSome now (λ f. IsSomeAnd (f (string_bytes names.prefix)) (λ bytes. limit < length bytes))
LookCause names now rose Disk = rose
LookCause names now rose NoMemory = Unit {0}
LookCause names now rose fault = ⊥

-- the same on this disk
abbrev pub LookFails : FileNames → DiskState → DiskState → ArchiveFault → Type 0
LookFails names old new fault = LookCause names old.view.now (DiskFailed old new) fault
