-- What is picked of the names that a listing shows.
use Rattle.std.specs.Prelude.{◌≡◌, ◌≢◌, ◌⊎◌, List, [], ◌∷◌, Option, Some, None, option_map, if◌then◌else◌, bytes_eq, take, drop, length, string_bytes}
use Rattle.base_text.specs.Sum.{IsSum, read_sum}
use Rattle.base_devices.specs.declared.disk.Found.{Found}
use Rattle.base_model.specs.declared.wal.ArchiveId.{ArchiveId}
use Rattle.base_model.specs.declared.wal.ArchiveName.{ArchiveName}
use Rattle.base_model.specs.Text.{Text}
use Rattle.base_model.specs.Represents.{IsArchivePlace}
use Rattle.archive_lookup.specs.declared.stored.files.Stored.{Stored}
use Rattle.archive_lookup.specs.declared.stored.stored_lookup.StoredFile.{StoredFile}
use Rattle.archive_lookup.specs.Paths.{IsReadAs, below_folder}

-- in their order, each of the first is reported as one of the second, or passed over
abbrev pub Picks : {X Y : Type 0} → (X → Y → Type 0) → (X → Type 0) → List X → List Y → Type 0
Picks Shows Passes [] [] = Unit {0}
Picks Shows Passes [] (y ∷ ys) = ⊥
Picks Shows Passes (x ∷ xs) [] = Passes x × Picks Shows Passes xs []
Picks Shows Passes (x ∷ xs) (y ∷ ys) = (Shows x y × Picks Shows Passes xs ys)
    ⊎ (Passes x × Picks Shows Passes xs (y ∷ ys))

-- ---- all archive files below a folder of ids, which ends in a slash

-- a name that was found states this stored file; or it states none
pub record ShowsFile (folder : Text) (found : Found) (file : Stored) : Type 0 where
  pub named : string_bytes file.path ≡ string_bytes found.name
  pub length : file.size ≡ found.size
  pub read : IsReadAs (below_folder folder file.id) (string_bytes found.name) file.name (option_map (λ s. s.0) file.sum)
  pub fits : (sum : Text) → IsSum sum → IsArchivePlace file.id file.name sum

abbrev pub PassesFile : Text → Found → Type 0
PassesFile folder found = (id : ArchiveId) (name : ArchiveName) (sum : Text) → IsArchivePlace id name sum
    → string_bytes found.name ≢ below_folder folder id name sum

-- ---- the paths of one segment, which all begin so

-- the sum whose text comes after the prefix
abbrev pub sum_after : Text → Text → Option Text
sum_after prefix path = if bytes_eq (take (length prefix) path) prefix then read_sum (drop (length prefix) path) else
    None

pub record ShowsSum (prefix : Text) (found : Found) (kept : StoredFile) : Type 0 where
  pub named : string_bytes kept.path ≡ string_bytes found.name
  pub length : kept.size ≡ found.size
  pub read : sum_after prefix (string_bytes found.name) ≡ Some kept.sum.0

abbrev pub PassesSum : Text → Found → Type 0
PassesSum prefix found = sum_after prefix (string_bytes found.name) ≡ None
