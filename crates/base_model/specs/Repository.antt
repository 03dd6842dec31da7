-- The abstract repository of one stanza.
use Rattle.std.specs.Prelude.{◌≡◌, ◌≢◌, ◌⊎◌, ℕ, ◌<◌, ◌≤◌, List, [], ◌∷◌, ◌++◌, length, map, Option, Some, None, IfSome, option_map}
use Rattle.base_model.specs.declared.labels.Choices.{Choices}
use Rattle.base_model.specs.declared.clusters.ClusterId.{ClusterId}
use Rattle.base_model.specs.declared.clusters.Cluster.{Cluster}
use Rattle.base_model.specs.declared.wal.Segment.{Segment}
use Rattle.base_model.specs.declared.wal.Span.{Span}
use Rattle.base_model.specs.declared.wal.WalPart.{WalPart}
use Rattle.base_model.specs.declared.wal.ArchiveId.{ArchiveId}
use Rattle.base_model.specs.declared.wal.ArchiveName.{ArchiveName}
use Rattle.base_model.specs.declared.wal.ArchiveName.TheVariants.{Segment as Whole}
use Rattle.base_model.specs.Text.{Text, Map, In}
use Rattle.base_model.specs.Values.{Entry}
use Rattle.base_model.specs.InfoFiles.{AreFrom}
use Rattle.base_model.specs.ManifestText.{position, segments_per_log}

-- a file of a backup: its bytes, and its time in seconds
pub record File : Type 0 where
  pub bytes : Text
  pub time : ℕ

-- a backup with what it holds: its files by their paths
pub record Backup : Type 0 where
  pub entry : Entry
  pub wal : Option WalPart
  pub choices : Choices
  pub folders : List Text
  pub files : Map File

-- a file of the archive
pub record Archived : Type 0 where
  pub id : ArchiveId
  pub name : ArchiveName
  pub bytes : Text

-- what a drain of the spool has stored: a file's name and the sum of its bytes
pub record Drained : Type 0 where
  pub name : ArchiveName
  pub sum : Text

-- The clusters so far, the current one last; the backups in the order of their labels; the archived files; and all that
-- a drain ever stored.
pub record Stanza : Type 0 where
  pub history : List Cluster
  pub backups : List Backup
  pub archived : List Archived
  pub drained : List Drained

-- a repository is without a stanza, or has one
abbrev pub Repository : Type 0
Repository = Option Stanza

-- a cluster as the archive states it
abbrev pub identity_of : Cluster → ClusterId
identity_of c = record { id = c.id; system = c.system; version = c.version }

-- the folder of a cluster's files in the archive
abbrev pub id_of : Cluster → ArchiveId
id_of c = record { version = c.version; number = c.id }

-- the number of the current cluster: they are numbered 1, 2, 3 and so on
abbrev pub current_number : Stanza → ℕ
current_number s = length s.history

-- ---- soundness

-- the two differ in system identifier or version
abbrev pub Differ : Cluster → Cluster → Type 0
Differ c d = (c.system ≢ d.system) ⊎ (c.version ≢ d.version)

abbrev pub NeighboursDiffer : List Cluster → Type 0
NeighboursDiffer [] = Unit {0}
NeighboursDiffer (c ∷ []) = Unit {0}
NeighboursDiffer (c ∷ d ∷ cs) = Differ c d × NeighboursDiffer (d ∷ cs)

-- a segment at that size, which lies from start to stop
abbrev pub IsWithinSpan : ℕ → Span → Segment → Type 0
IsWithinSpan size span s = (s.timeline ≡ span.start.timeline) × (s.seg < segments_per_log size)
    × (position size span.start ≤ position size s) × (position size s ≤ position size span.stop)

-- each segment that a backup needs is archived under its cluster's id
abbrev pub HasItsSegments : Stanza → Backup → Type 0
HasItsSegments s b = IfSome b.wal (λ w. (segment : Segment) (c : Cluster) → In c s.history → c.id ≡ b.entry.db
    → IsWithinSpan w.size.0 w.span segment →
    (a : Archived) × In a s.archived × (a.id ≡ id_of c) × (a.name ≡ Whole segment))

-- The backup's cluster is in the history, its span is that of its part of the log, its prior comes before it and is of
-- its cluster, and its segments are archived.
pub record IsSoundBackup (s : Stanza) (earlier : List Backup) (b : Backup) : Type 0 where
  pub cluster : (c : Cluster) × In c s.history × (c.id ≡ b.entry.db)
  pub span : b.entry.span ≡ option_map (λ (w : WalPart). w.span) b.wal
  pub prior : IfSome b.entry.prior (λ l. (p : Backup) × In p earlier × (p.entry.label ≡ l) × (p.entry.db ≡ b.entry.db))
  pub segments : HasItsSegments s b

abbrev pub AreSound : Stanza → List Backup → List Backup → Type 0
AreSound s earlier [] = Unit {0}
AreSound s earlier (b ∷ bs) = IsSoundBackup s earlier b × AreSound s (earlier ++ b ∷ []) bs

-- no two archived files have one id and name
abbrev pub IsNew : Archived → List Archived → Type 0
IsNew a others = (b : Archived) → In b others → (b.id ≡ a.id) × (b.name ≡ a.name) → ⊥

abbrev pub AreApart : List Archived → Type 0
AreApart [] = Unit {0}
AreApart (a ∷ others) = IsNew a others × AreApart others

pub record IsSoundStanza (s : Stanza) : Type 0 where
  pub some : 1 ≤ length s.history
  pub numbers : AreFrom 1 (map (λ c. c.id) s.history)
  pub neighbours : NeighboursDiffer s.history
  pub ids : (a : Archived) → In a s.archived → (c : Cluster) × In c s.history × (a.id ≡ id_of c)
  pub apart : AreApart s.archived
  pub backups : AreSound s [] s.backups

abbrev pub IsSound : Repository → Type 0
IsSound None = Unit {0}
IsSound (Some s) = IsSoundStanza s
