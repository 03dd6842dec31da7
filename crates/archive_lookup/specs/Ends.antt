-- The stored whole segments of an id that bound all others (own).
use Rattle.std.specs.Prelude.{◌≡◌, ◌≢◌, ◌<◌, ◌≤◌, ◌⊎◌, ℕ, false, List, String, length, string_bytes, slice_index, slice_index_or, EachIndex, IfSome}
use Rattle.std.specs.declared.alloc.Global.{Global}
use Rattle.base_text.specs.Sum.{IsSum}
use Rattle.base_devices.specs.Content.{Content}
use Rattle.base_devices.specs.Order.{is_before}
use Rattle.base_devices.specs.States.{DiskState}
use Rattle.base_devices.specs.declared.disk.Found.{Found}
use Rattle.base_model.specs.declared.wal.ArchiveId.{ArchiveId}
use Rattle.base_model.specs.declared.wal.ArchiveName.TheVariants.{Segment as Whole}
use Rattle.base_model.specs.declared.wal.Segment.{Segment}
use Rattle.base_model.specs.Text.{Text, In, ◌⫽◌}
use Rattle.base_model.specs.InfoFiles.{IsSegment}
use Rattle.base_model.specs.Names.{archive_folder, id_text, segment_text, segment_folder}
use Rattle.archive_lookup.specs.Stored.{Stores}
use Rattle.archive_lookup.specs.Paths.{below_folder}
use Rattle.archive_lookup.specs.Listing.{Picks}

-- f stores the whole segment under the id, with some sum
abbrev pub StoresWhole : Text → ArchiveId → Content → Segment → Type 0
StoresWhole stanza id f s = IsSegment s × ((sum : Text) × Stores stanza id (Whole s) f sum)

-- They are stored whole segments. For each that is stored one of them is at or before it in byte order, and one at or
-- after it.
pub record AreEnds (stanza : Text) (id : ArchiveId) (f : Content) (found : List Segment) : Type 0 where
  pub each : (s : Segment) → In s found → StoresWhole stanza id f s
  pub first : (s : Segment) → StoresWhole stanza id f s
      → (t : Segment) × In t found × (is_before (segment_text s) (segment_text t) ≡ false)
  pub last : (s : Segment) → StoresWhole stanza id f s
      → (t : Segment) × In t found × (is_before (segment_text t) (segment_text s) ≡ false)

-- ---- one folder of the log

-- an upper-case hexadecimal digit
abbrev pub IsUpperDigit : ℕ → Type 0
IsUpperDigit byte = ((48 ≤ byte) × (byte ≤ 57)) ⊎ ((65 ≤ byte) × (byte ≤ 70))

-- a name of 16 such digits, as a folder of the log has
abbrev pub IsLogFolder : Text → Type 0
IsLogFolder name = (length name ≡ 16) × EachIndex name (λ k. IsUpperDigit (slice_index name k))

-- the folder of an id
abbrev pub id_place : Text → ArchiveId → Text
id_place stanza id = archive_folder stanza ⫽ id_text id

-- the path, in a folder of ids that ends in a slash, is that of the whole segment with some sum
abbrev pub IsPathOf : Text → ArchiveId → Text → Segment → Type 0
IsPathOf prefix id path s = IsSegment s × ((sum : Text) × IsSum sum × (path ≡ below_folder prefix id (Whole s) sum))

abbrev pub ShowsWhole : Text → ArchiveId → Found → Segment → Type 0
ShowsWhole prefix id found s = IsPathOf prefix id (string_bytes found.name) s

-- it is the path of no whole segment
abbrev pub PassesWhole : Text → ArchiveId → Found → Type 0
PassesWhole prefix id found = (s : Segment) → ¬ IsPathOf prefix id (string_bytes found.name) s

-- of the names that were found, those that are paths of whole segments
abbrev pub PicksWhole : Text → ArchiveId → List Found → List Segment → Type 0
PicksWhole prefix id found segments = Picks (ShowsWhole prefix id) (PassesWhole prefix id) found segments

-- the stored whole segments of this folder of the log
pub record AreWholeIn (stanza : Text) (id : ArchiveId) (f : Content) (folder : Text) (found : List Segment) : Type
    0 where
  pub each : (s : Segment) → In s found → StoresWhole stanza id f s × (segment_folder s ≡ folder)
  pub all : (s : Segment) → StoresWhole stanza id f s → segment_folder s ≡ folder → In s found

-- ---- the first that has any

-- x is there in the list
abbrev pub RepresentsAt : {X : Type 0} → List X → ℕ → X → Type 0
RepresentsAt xs k x = (k < length xs) × (slice_index_or xs k x ≡ x)

-- one of them is of another folder, which comes before this place
pub record IsAhead (folders : List (String Global)) (k : ℕ) (folder : Text) (found : List Segment) : Type 0 where
  pub segment : Segment
  pub among : In segment found
  pub place : ℕ
  pub before : place < k
  pub name : String Global
  pub represents : RepresentsAt folders place name
  pub is : string_bytes name ≡ segment_folder segment
  pub other : segment_folder segment ≢ folder

-- stored whole segments: of those in these folders all of the first folder that has any
pub record AreOfFirst (stanza : Text) (id : ArchiveId) (f : Content) (folders : List (String Global))
    (found : List Segment) : Type 0 where
  pub each : (s : Segment) → In s found → StoresWhole stanza id f s
  pub all : (s : Segment) (k : ℕ) (name : String Global) → StoresWhole stanza id f s → RepresentsAt folders k name
      → string_bytes name ≡ segment_folder s → In s found ⊎ IsAhead folders k (segment_folder s) found

-- ---- on a disk, where what it holds is known

-- these are the whole segments of the folder
abbrev pub FindsWholeIn : Text → ArchiveId → Text → DiskState → List Segment → Type 0
FindsWholeIn stanza id folder disk found = IfSome disk.view.now (λ f. AreWholeIn stanza id f folder found)

-- these are those of the first folder that has any
abbrev pub FindsOfFirst : Text → ArchiveId → List (String Global) → DiskState → List Segment → Type 0
FindsOfFirst stanza id folders disk found = IfSome disk.view.now (λ f. AreOfFirst stanza id f folders found)

-- these are the first and the last of the cluster's archive
abbrev pub FindsEnds : Text → ArchiveId → DiskState → List Segment → Type 0
FindsEnds stanza id disk found = IfSome disk.view.now (λ f. AreEnds stanza id f found)
