-- What the long header of a segment's first page states (PostgreSQL manual, "WAL Internals"; the bytes: PostgreSQL's
-- `xlog_internal.h`).
use Rattle.std.specs.Prelude.{◌≡◌, ◌≢◌, ℕ, ◌≤◌, nat_lt, length, take, drop, if◌then◌else◌}
use Rattle.std.specs.Int.{IsBitSet}
use Rattle.base_model.specs.Text.{Text, little_endian}
use Rattle.base_model.specs.ManifestText.{IsSegSize}
use Rattle.repo_names.specs.declared.wal.header.HeaderFault.{HeaderFault}
use Rattle.repo_names.specs.declared.wal.header.HeaderFault.TheVariants.{Form, Size, System}

-- the number of this many bytes from a place on
abbrev pub number_at : ℕ → ℕ → Text → ℕ
number_at place count bytes = little_endian (take count (drop place bytes))

-- the page's flags, and none where the bytes end before
abbrev pub page_info : Text → ℕ
page_info bytes = if nat_lt (length bytes) 4 then 0 else number_at 2 2 bytes

abbrev pub known_system : Text → ℕ
known_system = number_at 24 8

abbrev pub known_file_size : Text → ℕ
known_file_size = number_at 32 4

-- the page begins with a long header, whose flag is 0x0002
abbrev pub HasLongHeader : Text → Type 0
HasLongHeader bytes = (40 ≤ length bytes) × IsBitSet (page_info bytes) 1

-- the reported size is a segment's, and that of these bytes
abbrev pub HasKnownSize : Text → Type 0
HasKnownSize bytes = IsSegSize (known_file_size bytes) × (known_file_size bytes ≡ length bytes)

-- the bytes are a segment of this size, of the cluster with this system identifier
pub record IsOfSystem (bytes : Text) (system size : ℕ) : Type 0 where
  pub long : HasLongHeader bytes
  pub whole : HasKnownSize bytes
  pub known : size ≡ known_file_size bytes
  pub same : known_system bytes ≡ system

-- the bytes begin with the prefix, and are this many
pub record BeginsWith (first : Text) (count : ℕ) (bytes : Text) : Type 0 where
  pub prefix : take (length first) bytes ≡ first
  pub whole : length bytes ≡ count

-- this holds of all bytes that begin with the prefix and are this many
abbrev pub EachThatBegins : Text → ℕ → (Text → Type 0) → Type 0
EachThatBegins first count Holds = (bytes : Text) → BeginsWith first count bytes → Holds bytes

-- why they are none: the form comes first, then the size
abbrev pub IsRefused : Text → ℕ → HeaderFault → Type 0
IsRefused bytes system (Form found info) = (found ≡ length bytes) × (info ≡ page_info bytes) × ¬ HasLongHeader bytes
IsRefused bytes system (Size known found) = HasLongHeader bytes × (known ≡ known_file_size bytes) × (found ≡ length
    bytes)
    × ¬ HasKnownSize bytes
IsRefused bytes system (System kept found) = HasLongHeader bytes × HasKnownSize bytes × (kept ≡ system)
    × (found ≡ known_system bytes) × (found ≢ kept)
