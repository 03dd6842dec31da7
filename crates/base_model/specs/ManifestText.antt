-- The text of a manifest (pgBackRest user guide, "Backup"; the complete list of keys is this project's own).
use Rattle.std.specs.Prelude.{◌≡◌, ◌≢◌, ℕ, ◌+◌, ◌*◌, ◌/◌, ◌%◌, ◌<◌, ◌≤◌, ◌^◌, true, List, [], ◌∷◌, ◌++◌, length, map, sum_by, Option, Some, None, IfSome, IsSome, is_some, codes}
use Rattle.sha1.specs.Sha1.{sha1}
use Rattle.serde_json.specs.Data.{Data, boolean, string, no_members, object}
use Rattle.base_text.specs.Sum.{IsSum, sum_text}
use Rattle.base_devices.specs.Order.{are_in_order}
use Rattle.base_devices.specs.Crash.{IsTemporary}
use Rattle.base_model.specs.declared.labels.Label.{Label}
use Rattle.base_model.specs.declared.labels.BackupKind.{BackupKind}
use Rattle.base_model.specs.declared.labels.BackupKind.TheVariants.{Full}
use Rattle.base_model.specs.declared.wal.Segment.{Segment}
use Rattle.base_model.specs.declared.wal.WalPart.{WalPart}
use Rattle.base_model.specs.declared.files.Bundled.{Bundled}
use Rattle.base_model.specs.Text.{Text, ◌⫽◌, In, hex_upper, without_zeros}
use Rattle.base_devices.specs.States.{last_second}
use Rattle.base_model.specs.InfoText.{Section, info_text}
use Rattle.base_model.specs.Values.{FileEntry, Manifest}
use Rattle.base_model.specs.Fields.{Field, whole, fields, section}
use Rattle.base_model.specs.InfoFiles.{cluster_fields, kind_text, label_value, segment_value, label_kind, IsLabel, IsSegment, IsCluster}
use Rattle.base_model.specs.Paths.{IsPath}

-- a position: two hexadecimal numbers with a slash between (PostgreSQL manual, "pg_lsn Type")
abbrev pub lsn_text : ℕ → Text
lsn_text at = without_zeros (hex_upper 8 (at / 2 ^ 32)) ++ 47 ∷ without_zeros (hex_upper 8 (at % 2 ^ 32))

-- the position of a segment among all of its timeline, at a segment size (PostgreSQL manual, "WAL Internals")
abbrev pub segments_per_log : ℕ → ℕ
segments_per_log size = 2 ^ 32 / size

abbrev pub position : ℕ → Segment → ℕ
position size s = s.log * segments_per_log size + s.seg

-- ---- the sections

-- a field that is left out where there is nothing to state
abbrev pub optional : {X : Type 0} → Text → (X → Data) → Option X → List Field
optional key f None = []
optional key f (Some x) = (key, f x) ∷ []

abbrev pub backup_fields : Manifest → List Field
backup_fields m =
    optional (codes "backup-archive-start") (λ (w : WalPart). segment_value w.span.start) m.wal
    ++ optional (codes "backup-archive-stop") (λ (w : WalPart). segment_value w.span.stop) m.wal
    ++ (codes "backup-label", label_value m.label) ∷ []
    ++ optional (codes "backup-lsn-start") (λ (w : WalPart). string (lsn_text w.from.0)) m.wal
    ++ optional (codes "backup-lsn-stop") (λ (w : WalPart). string (lsn_text w.to.0)) m.wal
    ++ optional (codes "backup-prior") label_value m.prior
    ++ (codes "backup-timestamp-start", whole m.start) ∷ (codes "backup-timestamp-stop", whole m.stop)
    ∷ (codes "backup-type", string (kind_text m.kind)) ∷ []
    ++ optional (codes "backup-wal-segment-size") (λ (w : WalPart). whole w.size.0) m.wal

-- how the backup was made: with a server exactly where it has a part of the log
abbrev pub option_fields : Manifest → List Field
option_fields m = (codes "option-bundle", boolean m.choices.bundle) ∷ (codes "option-delta", boolean m.choices.delta)
    ∷ (codes "option-online", boolean (is_some m.wal)) ∷ []

abbrev pub file_fields : FileEntry → List Field
file_fields e =
    optional (codes "bni") (λ (b : Bundled). whole b.number) e.bundle
    ++ optional (codes "bno") (λ (b : Bundled). whole b.at) e.bundle
    ++ (codes "checksum", string (sum_text e.sum)) ∷ []
    ++ optional (codes "reference") label_value e.reference
    ++ (codes "size", whole e.size) ∷ (codes "timestamp", whole e.time) ∷ []

abbrev pub data_path : Text → Text
data_path path = codes "pg_data" ⫽ path

abbrev pub file_field : FileEntry → Field
file_field e = (data_path e.path, fields (file_fields e))

abbrev pub folder_field : Text → Field
folder_field path = (data_path path, object no_members)

unfoldable pub manifest_sections : Manifest → List Section
manifest_sections m =
    section (codes "backup") (backup_fields m)
    ++ section (codes "backup:db") (cluster_fields m.cluster)
    ++ section (codes "backup:option") (option_fields m)
    ++ section (codes "target:file") (map file_field m.files)
    ++ section (codes "target:path") ((codes "pg_data", object no_members) ∷ map folder_field m.folders)

-- ---- the rules

-- a segment size: a power of two from 1 MiB to 1 GiB (PostgreSQL manual, "initdb")
abbrev pub IsSegSize : ℕ → Type 0
IsSegSize size = (k : ℕ) × (20 ≤ k) × (k ≤ 30) × (size ≡ 2 ^ k)

-- the part of the log from start to stop, of one timeline and not too long (own)
pub record IsWalPart (w : WalPart) : Type 0 where
  pub size : IsSegSize w.size.0
  pub start : IsSegment w.span.start × (w.span.start.seg < segments_per_log w.size.0)
  pub stop : IsSegment w.span.stop × (w.span.stop.seg < segments_per_log w.size.0)
  pub timeline : w.span.start.timeline ≡ w.span.stop.timeline
  pub order : position w.size.0 w.span.start ≤ position w.size.0 w.span.stop
  pub short : position w.size.0 w.span.stop ≤ position w.size.0 w.span.start + 65536
  pub from : w.from.0 < 2 ^ 64
  pub to : w.to.0 < 2 ^ 64

-- a full backup has no prior, and another has one
abbrev pub HasItsPrior : BackupKind → Option Label → Type 0
HasItsPrior Full prior = prior ≡ None
HasItsPrior kind prior = IsSome prior

-- each folder on the path is among the folders
abbrev pub HasItsFolders : List Text → Text → Type 0
HasItsFolders folders path = (prefix last : Text) → path ≡ prefix ⫽ last → In prefix folders

-- The rules of a file: a temporary name is none, and a file without bytes has no place.
pub record IsFileEntry (folders : List Text) (e : FileEntry) : Type 0 where
  pub path : IsPath e.path
  pub lasting : ¬ IsTemporary e.path
  pub placed : HasItsFolders folders e.path
  pub signal : (e.path ≢ codes "recovery.signal") × (e.path ≢ codes "standby.signal")
  pub size : e.size < 2 ^ 64
  pub time : e.time < 2 ^ 64
  pub sum : IsSum e.sum
  pub empty : e.size ≡ 0 → (e.sum ≡ sha1 []) × (e.reference ≡ None) × (e.bundle ≡ None)
  pub reference : IfSome e.reference IsLabel
  pub bundle : IfSome e.bundle (λ b. (1 ≤ b.number) × (b.number < 2 ^ 32) × (b.at < 2 ^ 64))

pub record IsFolder (folders : List Text) (path : Text) : Type 0 where
  pub is_path : IsPath path
  pub lasting : ¬ IsTemporary path
  pub placed : HasItsFolders folders path
  pub signal : (path ≢ codes "recovery.signal") × (path ≢ codes "standby.signal")
      × (path ≢ codes "postgresql.auto.conf")

pub record IsManifest (m : Manifest) : Type 0 where
  pub label : IsLabel m.label
  pub kind : m.kind ≡ label_kind m.label
  pub prior : HasItsPrior m.kind m.prior × IfSome m.prior IsLabel
  pub start : m.start ≤ last_second
  pub stop : m.stop ≤ last_second
  pub cluster : IsCluster m.cluster
  pub wal : IfSome m.wal IsWalPart
  pub files : (e : FileEntry) → In e m.files → IsFileEntry m.folders e
  pub folders : (path : Text) → In path m.folders → IsFolder m.folders path
  pub file_order : are_in_order (map (λ e. e.path) m.files) ≡ true
  pub folder_order : are_in_order m.folders ≡ true
  pub apart : (path : Text) → In path (map (λ e. e.path) m.files) → ¬ In path m.folders
  pub sizes : sum_by (λ e. e.size) m.files ≤ 2 ^ 63

-- a manifest has at most 256 MiB (own)
abbrev pub manifest_limit : ℕ
manifest_limit = 268435456

-- the bytes are the text of this manifest
pub record IsManifestText (m : Manifest) (bytes : Text) : Type 0 where
  pub rules : IsManifest m
  pub spelled : bytes ≡ info_text (manifest_sections m)
  pub within : length bytes ≤ manifest_limit
