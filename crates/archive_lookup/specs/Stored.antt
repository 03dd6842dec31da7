-- With which sums a file is stored, which files are, and which names a push changes.
use Rattle.std.specs.Prelude.{◌≡◌, true, List, Option, Some, None, IsSome, IsSomeAnd, IsTrue, length, map, option_map, string_bytes}
use Rattle.sha1.specs.Sha1.{sha1}
use Rattle.base_text.specs.Sum.{IsSum, sum_text}
use Rattle.base_devices.specs.Content.{Content, is_below}
use Rattle.base_devices.specs.Moments.{View}
use Rattle.base_devices.specs.Order.{is_before, are_in_order}
use Rattle.base_disk.specs.Store.{ChangesOnly}
use Rattle.base_model.specs.declared.wal.ArchiveId.{ArchiveId}
use Rattle.base_model.specs.declared.wal.ArchiveName.{ArchiveName}
use Rattle.base_model.specs.declared.wal.ArchiveName.TheVariants.{Segment as Whole, Partial, History, Backup}
use Rattle.base_model.specs.Text.{Text, In}
use Rattle.base_model.specs.Names.{archive_folder, archive_name}
use Rattle.base_model.specs.Repository.{Archived}
use Rattle.base_model.specs.Represents.{IsArchiveFile, IsArchivePlace}
use Rattle.archive_lookup.specs.declared.stored.files.Stored.{Stored}

-- ---- one file

-- the archived file of these bytes
abbrev pub archived_file : ArchiveId → ArchiveName → Text → Archived
archived_file id name bytes = record { id = id; name = name; bytes = bytes }

-- the name at which a file with a sum is stored
abbrev pub archive_path : Text → ArchiveId → ArchiveName → Text → Text
archive_path stanza id name sum = archive_name stanza id name (sum_text sum)

-- What is at the name is the file with this sum. A segment's name states its sum, whatever the bytes; of another
-- file the bytes state it.
abbrev pub HasSum : ArchiveName → Option Text → Text → Type 0
HasSum (Whole segment) value sum = IsSum sum × IsSome value
HasSum (Partial segment) value sum = IsSum sum × IsSome value
HasSum (History timeline) value sum = IsSomeAnd value (λ bytes. sha1 bytes ≡ sum)
HasSum (Backup segment offset) value sum = IsSomeAnd value (λ bytes. sha1 bytes ≡ sum)

-- f stores the file with this sum
abbrev pub Stores : Text → ArchiveId → ArchiveName → Content → Text → Type 0
Stores stanza id name f sum = HasSum name (f (archive_path stanza id name sum)) sum

-- f stores it with no sum
abbrev pub StoresNone : Text → ArchiveId → ArchiveName → Content → Type 0
StoresNone stanza id name f = (sum : Text) → ¬ Stores stanza id name f sum

-- f stores it with this sum and with no other
pub record StoresOnly (stanza : Text) (id : ArchiveId) (name : ArchiveName) (f : Content) (sum : Text) : Type 0 where
  pub stored : Stores stanza id name f sum
  pub only : (other : Text) → Stores stanza id name f other → other ≡ sum

-- f stores it under these two names, and under none before the second but the first
pub record StoresTwo (stanza : Text) (id : ArchiveId) (name : ArchiveName) (f : Content) (first second : Text) : Type
    0 where
  pub first_sum : Text
  pub second_sum : Text
  pub first_stored : Stores stanza id name f first_sum
  pub second_stored : Stores stanza id name f second_sum
  pub first_is : first ≡ archive_path stanza id name first_sum
  pub second_is : second ≡ archive_path stanza id name second_sum
  pub order : is_before first second ≡ true
  pub before : (sum : Text) → Stores stanza id name f sum → is_before (archive_path stanza id name sum) second ≡ true
      → sum ≡ first_sum

-- ---- what is known of stored files

-- the sum that a file's name states
abbrev pub known_sum : ArchiveName → Text → Option Text
known_sum (Whole segment) sum = Some sum
known_sum (Partial segment) sum = Some sum
known_sum (History timeline) sum = None
known_sum (Backup segment offset) sum = None

-- it states an archive file of the stanza: its id, its name and the sum in it, where it lies, and how long it is
pub record IsStoredFile (stanza : Text) (f : Content) (file : Stored) : Type 0 where
  pub sum : Text
  pub fits : IsArchivePlace file.id file.name sum
  pub path : string_bytes file.path ≡ archive_path stanza file.id file.name sum
  pub known : option_map (λ s. s.0) file.sum ≡ known_sum file.name sum
  pub size : IsSomeAnd (f (string_bytes file.path)) (λ bytes. length bytes ≡ file.size)

-- each archive file of the stanza that f has, once, in byte order of the paths
pub record AreStored (stanza : Text) (f : Content) (files : List Stored) : Type 0 where
  pub each : (file : Stored) → In file files → IsStoredFile stanza f file
  pub all : (name : Text) → IsArchiveFile stanza name → IsSome (f name)
      → (file : Stored) × In file files × (string_bytes file.path ≡ name)
  pub order : are_in_order (map (λ (file : Stored). string_bytes file.path) files) ≡ true

-- f stores the file with one sum alone, and this is known of it; or f doesn't store it
abbrev pub Finds : Text → ArchiveId → ArchiveName → Content → Option Stored → Type 0
Finds stanza id name f None = StoresNone stanza id name f
Finds stanza id name f (Some file) = (file.id ≡ id) × (file.name ≡ name) × IsStoredFile stanza f file
    × ((sum : Text) × StoresOnly stanza id name f sum × (string_bytes file.path ≡ archive_path stanza id name sum))

-- ---- what a push changes

-- only names below the stanza's folder of the archive change, and only temporary ones become unsynced
abbrev pub ChangesArchive : Text → View → View → Type 0
ChangesArchive stanza old new = ChangesOnly (λ n. IsTrue (is_below (archive_folder stanza) n)) old new
