-- Which repository of a stanza the names of a disk represent.
use Rattle.std.specs.Prelude.{◌≡◌, ◌≢◌, ◌⊎◌, ◌↔◌, ◌<◌, ◌^◌, List, [], ◌∷◌, ◌++◌, length, map, Option, Some, None}
use Rattle.std.specs.FinMap.{get, keys}
use Rattle.sha1.specs.Sha1.{sha1}
use Rattle.base_text.specs.Sum.{IsSum, sum_text}
use Rattle.base_devices.specs.Content.{Content}
use Rattle.base_model.specs.declared.labels.Label.{Label}
use Rattle.base_model.specs.declared.clusters.Cluster.{Cluster}
use Rattle.base_model.specs.declared.wal.ArchiveId.{ArchiveId}
use Rattle.base_model.specs.declared.wal.ArchiveName.{ArchiveName}
use Rattle.base_model.specs.declared.wal.ArchiveName.TheVariants.{Segment as Whole, Partial, History, Backup as BackupHistory}
use Rattle.base_model.specs.Text.{Text, In}
use Rattle.base_model.specs.Names.{archive_info, backup_info, manifest_name, archive_name}
use Rattle.base_model.specs.Values.{ArchiveInfo, BackupInfo, FileEntry, Manifest}
use Rattle.base_model.specs.InfoFiles.{IsArchiveText, IsBackupText, IsSegment}
use Rattle.base_model.specs.ManifestText.{IsManifestText}
use Rattle.base_model.specs.Pair.{PairIs, PairAbsent}
use Rattle.base_model.specs.Place.{place, LiesAt}
use Rattle.base_model.specs.Repository.{File, Backup, Archived, Stanza, Repository, identity_of, current_number}

-- ---- archive files

-- the fields of a name fit its digits
abbrev pub IsWalName : ArchiveName → Type 0
IsWalName (Whole s) = IsSegment s
IsWalName (Partial s) = IsSegment s
IsWalName (BackupHistory s offset) = IsSegment s × (offset < 2 ^ 32)
IsWalName (History timeline) = timeline < 2 ^ 32

-- an id, a name and a sum of which there is an archive file's name
pub record IsArchivePlace (id : ArchiveId) (name : ArchiveName) (sum : Text) : Type 0 where
  pub version : id.version < 2 ^ 32
  pub number : id.number < 2 ^ 32
  pub fits : IsWalName name
  pub digest : IsSum sum

-- the name is that of an archive file
pub record IsArchiveFile (stanza name : Text) : Type 0 where
  pub id : ArchiveId
  pub file : ArchiveName
  pub sum : Text
  pub fits : IsArchivePlace id file sum
  pub is : name ≡ archive_name stanza id file (sum_text sum)

-- the name at which an archived file lies: a whole or a partial segment has the sum of its bytes in it
abbrev pub stored_name : Text → Archived → Text
stored_name stanza a = archive_name stanza a.id a.name (sum_text (sha1 a.bytes))

-- ---- backups

-- the entry describes the file, and the file's bytes lie at its place
pub record IsEntryOf (stanza : Text) (f : Content) (own : Label) (file : File) (e : FileEntry) : Type 0 where
  pub size : e.size ≡ length file.bytes
  pub time : e.time ≡ file.time
  pub sum : e.sum ≡ sha1 file.bytes
  pub stored : 0 < e.size → LiesAt f (place stanza own e) file.bytes

-- the label is the prior of the backup, or an ancestor of its prior
pub data IsAncestor (backups : List Backup) : Label → Backup → Type 0 where
  Prior : (b : Backup) (l : Label) → b.entry.prior ≡ Some l → IsAncestor backups l b
  Earlier : (b p : Backup) (l : Label) → In p backups → b.entry.prior ≡ Some p.entry.label → IsAncestor backups l p
      → IsAncestor backups l b

-- the label is listed
abbrev pub IsListed : List Backup → Label → Type 0
IsListed backups l = (b : Backup) × In b backups × (b.entry.label ≡ l)

-- a manifest is that of a backup, and f has all its bytes
pub record IsManifestOf (stanza : Text) (f : Content) (s : Stanza) (b : Backup) (m : Manifest) : Type 0 where
  pub label : m.label ≡ b.entry.label
  pub kind : m.kind ≡ b.entry.kind
  pub prior : m.prior ≡ b.entry.prior
  pub start : m.start ≡ b.entry.start
  pub stop : m.stop ≡ b.entry.stop
  pub cluster : In m.cluster s.history × (m.cluster.id ≡ b.entry.db)
  pub wal : m.wal ≡ b.wal
  pub choices : m.choices ≡ b.choices
  pub folders : m.folders ≡ b.folders
  pub paths : map (λ e. e.path) m.files ≡ keys b.files
  pub files : (e : FileEntry) → In e m.files
      → (file : File) × (get b.files e.path ≡ Some file) × IsEntryOf stanza f b.entry.label file e
  pub references : (l : Label) → In l b.entry.references ↔ ((e : FileEntry) × In e m.files × (e.reference ≡ Some l))
  pub ancestors : (l : Label) → In l b.entry.references → IsAncestor s.backups l b × IsListed s.backups l

-- ---- the whole

-- f has no stanza: no archive pair, no archive file, and a backup pair that lists nothing
pub record IsVacant (stanza : Text) (f : Content) : Type 0 where
  pub archive_pair : PairAbsent f (archive_info stanza)
  pub backup_pair : PairAbsent f (backup_info stanza)
      ⊎ ((v : BackupInfo) × PairIs IsBackupText f (backup_info stanza) v × (v.backups ≡ []))
  pub archived : (name : Text) → IsArchiveFile stanza name → f name ≡ None

-- the value of the archive pair
abbrev pub archive_value : Stanza → ArchiveInfo
archive_value s = record { current = current_number s; history = map identity_of s.history }

-- The value of the backup pair. Its history is the stanza's, or has one further cluster that is still to come: it is
-- then its current one, and no listed backup's.
abbrev pub backup_value : Stanza → Option Cluster → BackupInfo
backup_value s None = record { current = current_number s; history = s.history; backups = map (λ b. b.entry) s.backups }
backup_value s (Some c) = record {
  current = c.id;
  history = s.history ++ c ∷ [];
  backups = map (λ b. b.entry) s.backups;
}

abbrev pub IsPending : Stanza → Option Cluster → Type 0
IsPending s None = Unit {0}
IsPending s (Some c) = (b : Backup) → In b s.backups → b.entry.db ≢ c.id

-- f has the stanza
pub record HasStanza (stanza : Text) (f : Content) (s : Stanza) : Type 0 where
  pub archive_pair : PairIs IsArchiveText f (archive_info stanza) (archive_value s)
  pub pending : Option Cluster
  pub is_pending : IsPending s pending
  pub backup_pair : PairIs IsBackupText f (backup_info stanza) (backup_value s pending)
  pub manifests : (b : Backup) → In b s.backups
      → (m : Manifest) × PairIs IsManifestText f (manifest_name stanza b.entry.label) m × IsManifestOf stanza f s b m
  pub archived : (name bytes : Text) → IsArchiveFile stanza name →
      (f name ≡ Some bytes) ↔ ((a : Archived) × In a s.archived × (name ≡ stored_name stanza a) × (bytes ≡ a.bytes))
  pub named : (a : Archived) → In a s.archived → IsArchivePlace a.id a.name (sha1 a.bytes)

-- what f represents; all other names are ignored
abbrev pub Represents : Text → Content → Repository → Type 0
Represents stanza f None = IsVacant stanza f
Represents stanza f (Some s) = HasStanza stanza f s
