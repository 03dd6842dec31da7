-- The texts of `archive.info` and `backup.info` (pgBackRest user guide, "Create the Stanza" and "Backup").
use Rattle.std.specs.Prelude.{◌≡◌, ◌≢◌, ℕ, ◌+◌, ◌<◌, ◌≤◌, ◌^◌, true, List, [], ◌∷◌, ◌++◌, length, map, IfSome, Any, codes, decimal}
use Rattle.std.specs.List.{AllByRecursion}
use Rattle.std.specs.Option.{option_map_or}
use Rattle.base_model.specs.declared.labels.Later.{Later}
use Rattle.serde_json.specs.Data.{Data, string}
use Rattle.base_devices.specs.Order.{are_in_order}
use Rattle.base_model.specs.declared.labels.Label.{Label}
use Rattle.base_model.specs.declared.labels.BackupKind.{BackupKind}
use Rattle.base_model.specs.declared.labels.BackupKind.TheVariants.{Full, Diff, Incr}
use Rattle.base_model.specs.declared.clusters.ClusterId.{ClusterId}
use Rattle.base_model.specs.declared.clusters.Cluster.{Cluster}
use Rattle.base_model.specs.declared.wal.Span.{Span}
use Rattle.base_model.specs.declared.wal.Segment.{Segment}
use Rattle.base_model.specs.Text.{Text}
use Rattle.base_devices.specs.States.{last_second}
use Rattle.base_model.specs.Names.{label_text, segment_text}
use Rattle.base_model.specs.InfoText.{Section, info_text}
use Rattle.base_model.specs.Values.{ArchiveInfo, BackupInfo, Entry}
use Rattle.base_model.specs.Fields.{Field, whole, fields, list_of, or_null, section, by_key, at_number, fields_of}

-- ---- archive.info

-- a version of the format, as a value
abbrev pub version_value : ℕ → Data
version_value version = string (decimal version)

-- the current cluster, as the section `db` repeats it
abbrev pub cluster_id_fields : ClusterId → List Field
cluster_id_fields c = (codes "db-id", whole c.id) ∷ (codes "db-system-id", whole c.system)
    ∷ (codes "db-version", version_value c.version) ∷ []

-- a cluster of the history, under its number
abbrev pub cluster_id_field : ClusterId → Field
cluster_id_field c =
    (decimal c.id, fields ((codes "db-id", whole c.system) ∷ (codes "db-version", version_value c.version) ∷ []))

unfoldable pub archive_sections : ArchiveInfo → List Section
archive_sections v =
    section (codes "db") (fields_of cluster_id_fields (at_number v.current v.history))
    ++ section (codes "db:history") (by_key (map cluster_id_field v.history))

-- ---- backup.info

-- the parts of a cluster, a kind of backup, a label and a segment, as values of the lists
abbrev pub cluster_fields : Cluster → List Field
cluster_fields c = (codes "db-catalog-version", whole c.catalog) ∷ (codes "db-control-version", whole c.control)
    ∷ (codes "db-id", whole c.id) ∷ (codes "db-system-id", whole c.system)
    ∷ (codes "db-version", version_value c.version) ∷ []

abbrev pub cluster_field : Cluster → Field
cluster_field c = (
  decimal c.id,
  fields ((codes "db-catalog-version", whole c.catalog) ∷ (codes "db-control-version", whole c.control)
      ∷ (codes "db-system-id", whole c.system) ∷ (codes "db-version", version_value c.version) ∷ []),
)

abbrev pub kind_text : BackupKind → Text
kind_text Full = codes "full"
kind_text Diff = codes "diff"
kind_text Incr = codes "incr"

abbrev pub label_value : Label → Data
label_value l = string (label_text l)

abbrev pub segment_value : Segment → Data
segment_value s = string (segment_text s)

-- a listed backup, under its label
abbrev pub entry_field : Entry → Field
entry_field e = (
  label_text e.label,
  fields (
      (codes "backup-archive-start", or_null (λ (s : Span). segment_value s.start) e.span)
      ∷ (codes "backup-archive-stop", or_null (λ (s : Span). segment_value s.stop) e.span)
      ∷ (codes "backup-info-repo-size-delta", whole e.stored)
      ∷ (codes "backup-info-size", whole e.size)
      ∷ (codes "backup-prior", or_null label_value e.prior)
      ∷ (codes "backup-reference", list_of (map label_value e.references))
      ∷ (codes "backup-timestamp-start", whole e.start)
      ∷ (codes "backup-timestamp-stop", whole e.stop)
      ∷ (codes "backup-type", string (kind_text e.kind))
      ∷ (codes "db-id", whole e.db) ∷ []),
)

unfoldable pub backup_sections : BackupInfo → List Section
backup_sections v =
    section (codes "backup:current") (map entry_field v.backups)
    ++ section (codes "db") (fields_of cluster_fields (at_number v.current v.history))
    ++ section (codes "db:history") (by_key (map cluster_field v.history))

-- ---- the rules of the values

-- the numbers are this one, the next and so on
abbrev pub AreFrom : ℕ → List ℕ → Type 0
AreFrom n [] = Unit {0}
AreFrom n (x ∷ xs) = (x ≡ n) × AreFrom (n + 1) xs

-- numbers of 64 and of 32 bits
pub record IsClusterId (c : ClusterId) : Type 0 where
  pub id : c.id < 2 ^ 32
  pub system : c.system < 2 ^ 64
  pub version : c.version < 2 ^ 32

pub record IsArchiveInfo (v : ArchiveInfo) : Type 0 where
  pub clusters : AllByRecursion IsClusterId v.history
  pub numbers : AreFrom 1 (map (λ c. c.id) v.history)
  pub current : (1 ≤ v.current) × (v.current ≤ length v.history)

pub record IsCluster (c : Cluster) : Type 0 where
  pub id : c.id < 2 ^ 32
  pub system : c.system < 2 ^ 64
  pub version : c.version < 2 ^ 32
  pub control : c.control < 2 ^ 32
  pub catalog : c.catalog < 2 ^ 32

-- its seconds have digits, and the second part is that of a differential or an incremental backup
pub record IsLabel (l : Label) : Type 0 where
  pub full : l.full ≤ last_second
  pub later : IfSome l.later (λ p. (p.time ≤ last_second) × (p.kind ≢ Full))

-- the kind that a label states
abbrev pub label_kind : Label → BackupKind
label_kind l = option_map_or (λ (p : Later). p.kind) l.later Full

pub record IsSegment (s : Segment) : Type 0 where
  pub timeline : s.timeline < 2 ^ 32
  pub log : s.log < 2 ^ 32
  pub seg : s.seg < 2 ^ 32

-- a backup of a list, after these earlier ones, of a history of this many clusters
pub record IsListedEntry (clusters : ℕ) (earlier : List Entry) (e : Entry) : Type 0 where
  pub label : IsLabel e.label
  pub kind : e.kind ≡ label_kind e.label
  pub prior : IfSome e.prior (λ l. IsLabel l × Any (λ (p : Entry). p.label ≡ l) earlier)
  pub references : AllByRecursion IsLabel e.references
  pub reference_order : are_in_order (map label_text e.references) ≡ true
  pub db : (1 ≤ e.db) × (e.db ≤ clusters) × (e.db < 2 ^ 32)
  pub span : IfSome e.span (λ s. IsSegment s.start × IsSegment s.stop)
  pub start : e.start ≤ last_second
  pub stop : e.stop ≤ last_second
  pub size : e.size < 2 ^ 64
  pub stored : e.stored < 2 ^ 64

abbrev pub AreListed : ℕ → List Entry → List Entry → Type 0
AreListed clusters earlier [] = Unit {0}
AreListed clusters earlier (e ∷ es) = IsListedEntry clusters earlier e × AreListed clusters (earlier ++ e ∷ []) es

pub record IsBackupInfo (v : BackupInfo) : Type 0 where
  pub clusters : AllByRecursion IsCluster v.history
  pub numbers : AreFrom 1 (map (λ c. c.id) v.history)
  pub current : (1 ≤ v.current) × (v.current ≤ length v.history)
  pub backups : AreListed (length v.history) [] v.backups
  pub order : are_in_order (map (λ e. label_text e.label) v.backups) ≡ true

-- ---- the texts

-- an info text has at most 64 MiB (own)
abbrev pub info_limit : ℕ
info_limit = 67108864

-- the bytes are the text of this value
pub record IsArchiveText (v : ArchiveInfo) (bytes : Text) : Type 0 where
  pub rules : IsArchiveInfo v
  pub spelled : bytes ≡ info_text (archive_sections v)
  pub within : length bytes ≤ info_limit

pub record IsBackupText (v : BackupInfo) (bytes : Text) : Type 0 where
  pub rules : IsBackupInfo v
  pub spelled : bytes ≡ info_text (backup_sections v)
  pub within : length bytes ≤ info_limit
