-- How the two pairs, the archive's names and the list of backups contradict each other (own).
use Rattle.std.specs.Prelude.{◌≡◌, ◌≢◌, List, Some, IsSome}
use Rattle.base_text.specs.Sum.{sum_text}
use Rattle.base_devices.specs.Content.{Content}
use Rattle.base_model.specs.declared.clusters.ClusterId.{ClusterId}
use Rattle.base_model.specs.declared.wal.ArchiveId.{ArchiveId}
use Rattle.base_model.specs.declared.wal.ArchiveName.{ArchiveName}
use Rattle.base_model.specs.InfoFiles.{IsArchiveText, IsBackupText}
use Rattle.base_model.specs.Names.{archive_info, backup_info, manifest_name, archive_name}
use Rattle.base_model.specs.Pair.{PairIs}
use Rattle.base_model.specs.Represents.{IsArchivePlace}
use Rattle.base_model.specs.Text.{Text, In}
use Rattle.base_model.specs.Values.{ArchiveInfo, BackupInfo, Entry}
use Rattle.repo_stanza.specs.Pairs.{AreTogether, HavePairs}
use Rattle.cmd_verify.specs.What.{What, Contradicts, HistoriesDiffer, NoCluster, OtherPrior}

-- at this name it is reported so, where this holds
abbrev pub IsAt : Text → What → Type 0 → Text → What → Type 0
IsAt at way P name what = (name ≡ at) × (what ≡ way) × P

-- ---- the archive's names

-- the files of the cluster lie under this id
abbrev pub IsIdOf : ArchiveId → ClusterId → Type 0
IsIdOf id c = (id.version ≡ c.version) × (id.number ≡ c.id)

-- those of a cluster of the history do
abbrev pub HasId : List ClusterId → ArchiveId → Type 0
HasId history id = (c : ClusterId) × In c history × IsIdOf id c

-- f has an archive file at the name, under an id of no cluster of this history
pub record IsOutside (stanza : Text) (f : Content) (history : List ClusterId) (name : Text) : Type 0 where
  pub id : ArchiveId
  pub file : ArchiveName
  pub sum : Text
  pub fits : IsArchivePlace id file sum
  pub is : name ≡ archive_name stanza id file (sum_text sum)
  pub there : IsSome (f name)
  pub none : ¬ HasId history id

-- ---- the list

-- the one is the other's prior, and of another cluster
abbrev pub IsOtherPrior : Entry → Entry → Type 0
IsOtherPrior e p = (e.prior ≡ Some p.label) × (p.db ≢ e.db)

-- the prior of a listed backup is of another cluster
abbrev pub HasOtherPrior : List Entry → Entry → Type 0
HasOtherPrior entries e = (p : Entry) × In p entries × IsOtherPrior e p

-- an entry contradicts its list so, which is reported at its manifest
abbrev pub EntryContradicts : Text → List Entry → Entry → Text → What → Type 0
EntryContradicts stanza entries e =
    IsAt (manifest_name stanza e.label) (Contradicts OtherPrior) (HasOtherPrior entries e)

-- ---- the whole

-- the histories of the two pairs don't fit together
abbrev pub HistoriesContradict : Text → Content → Text → What → Type 0
HistoriesContradict stanza f = IsAt (backup_info stanza) (Contradicts HistoriesDiffer)
    ((a : ArchiveInfo) × (b : BackupInfo) × HavePairs stanza f a b × ¬ AreTogether a b)

-- an archive file lies under an id that the archive pair doesn't have in its history
abbrev pub FileContradicts : Text → Content → Text → What → Type 0
FileContradicts stanza f name what = (what ≡ Contradicts NoCluster)
    × ((a : ArchiveInfo) × PairIs IsArchiveText f (archive_info stanza) a × IsOutside stanza f a.history name)

-- f contradicts itself so
pub data IsContradiction (stanza : Text) (f : Content) (name : Text) (what : What) : Type 0 where
  OfHistories : HistoriesContradict stanza f name what → IsContradiction stanza f name what
  OfArchived : FileContradicts stanza f name what → IsContradiction stanza f name what
  OfContradicting : (v : BackupInfo) → PairIs IsBackupText f (backup_info stanza) v → (e : Entry) → In e v.backups
      → EntryContradicts stanza v.backups e name what → IsContradiction stanza f name what
