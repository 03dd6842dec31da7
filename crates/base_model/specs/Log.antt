-- Logs of commands, the repositories that they reach, and the disks that keep them.
use Rattle.std.specs.Prelude.{◌≡◌, ◌⊎◌, ◌<◌, Bool, true, false, List, [], ◌∷◌, ◌++◌, Some, None}
use Rattle.base_text.specs.Sum.{IsSum, sum_text}
use Rattle.base_devices.specs.Content.{Content}
use Rattle.base_devices.specs.Moments.{View, is_unsynced}
use Rattle.base_devices.specs.Crash.{Leaves}
use Rattle.base_model.specs.declared.labels.Label.{Label}
use Rattle.base_model.specs.declared.wal.ArchiveName.{ArchiveName}
use Rattle.base_model.specs.Text.{Text, In}
use Rattle.base_model.specs.Names.{archive_info, backup_info, manifest_name, receipt_name, copy_of}
use Rattle.base_model.specs.Values.{BackupInfo, Entry, FileEntry, Manifest}
use Rattle.base_model.specs.InfoFiles.{IsBackupText}
use Rattle.base_model.specs.ManifestText.{IsManifestText}
use Rattle.base_model.specs.Pair.{PairIs}
use Rattle.base_model.specs.Place.{place}
use Rattle.base_model.specs.Repository.{Repository, IsSound}
use Rattle.base_model.specs.Represents.{Represents, IsArchiveFile, IsWalName}
use Rattle.base_model.specs.Steps.{Step, Move, Command, after, all_of, IsPartOf, steps_of}

-- a command as the log has it: a stopped one isn't acknowledged
pub record Done : Type 0 where
  pub command : Command
  pub acknowledged : Bool

-- all of a command's moves where it is acknowledged, a part where not
abbrev pub IsDone : Bool → List Step → List Move → Type 0
IsDone true done moves = done ≡ all_of moves
IsDone false done moves = IsPartOf done moves

-- from old a command may lead to new
abbrev pub Leads : Done → Repository → Repository → Type 0
Leads d old new = (done : List Step) × (new ≡ after old done) × IsDone d.acknowledged done (steps_of d.command old)

-- from q a log may reach r; its newest command is the first
abbrev pub Reaches : Repository → List Done → Repository → Type 0
Reaches q [] r = r ≡ q
Reaches q (d ∷ log) r = (mid : Repository) × Reaches q log mid × Leads d mid r

-- f represents a sound repository that the log reaches
pub record RepresentsAfter (stanza : Text) (q : Repository) (log : List Done) (f : Content) : Type 0 where
  pub repository : Repository
  pub reached : Reaches q log repository
  pub sound : IsSound repository
  pub represents : Represents stanza f repository

-- ---- the names that are looked at

-- the files of a stanza that state it: the members of its two pairs, and those of a backup's manifest
abbrev pub IsPairMember : Text → Text → Type 0
IsPairMember stanza name = (name ≡ archive_info stanza)
    ⊎ ((name ≡ copy_of (archive_info stanza)) ⊎ ((name ≡ backup_info stanza) ⊎ (name ≡ copy_of (backup_info stanza))))

abbrev pub IsManifestMember : Text → Text → Type 0
IsManifestMember stanza name = (l : Label)
    × ((name ≡ manifest_name stanza l) ⊎ (name ≡ copy_of (manifest_name stanza l)))

-- a member of an info pair, an archive file, or a manifest of any label
pub data IsFixed (stanza name : Text) : Type 0 where
  Pair : IsPairMember stanza name → IsFixed stanza name
  File : IsArchiveFile stanza name → IsFixed stanza name
  Manifested : IsManifestMember stanza name → IsFixed stanza name

-- f lists the label
abbrev pub Lists : Text → Content → Label → Type 0
Lists stanza f l = (v : BackupInfo) × PairIs IsBackupText f (backup_info stanza) v
    × ((e : Entry) × In e v.backups × (e.label ≡ l))

-- the name is a place of a label that f lists
pub record IsPlaceOf (stanza : Text) (f : Content) (name : Text) : Type 0 where
  pub label : Label
  pub listed : Lists stanza f label
  pub manifest : Manifest
  pub reads : PairIs IsManifestText f (manifest_name stanza label) manifest
  pub entry : FileEntry
  pub of_it : In entry manifest.files
  pub filled : 0 < entry.size
  pub is : name ≡ (place stanza label entry).0

-- ---- the spool

-- f has the receipt that a file of this name and sum was stored
abbrev pub HasReceipt : Text → Content → ArchiveName → Text → Type 0
HasReceipt stanza f name sum = IsSum sum × (f (receipt_name stanza name) ≡ Some (sum_text sum ++ 10 ∷ []))

-- a drain has stored it
abbrev pub IsDrained : Repository → ArchiveName → Text → Type 0
IsDrained None name sum = ⊥
IsDrained (Some s) name sum = In (record { name = name; sum = sum }) s.drained

-- ---- keeps

-- The repository's disk, and all that a crash now leaves of it, represent, each by itself, a sound repository that the
-- log reaches from q, and the names that are looked at aren't unsynced.
pub record KeepsRepository (stanza : Text) (q : Repository) (log : List Done) (v : View) : Type 0 where
  pub fixed : (name : Text) → IsFixed stanza name → is_unsynced v name ≡ false
  pub places : (f : Content) → Leaves v v.moment f → (name : Text) → IsPlaceOf stanza f name → is_unsynced v name ≡
      false
  pub represents : (f : Content) → Leaves v v.moment f → RepresentsAfter stanza q log f

-- Each receipt that the spool's disk has, or a crash now leaves, is by itself of a file that such a repository has
-- stored, and no receipt is unsynced.
pub record KeepsSpool (stanza : Text) (q : Repository) (log : List Done) (v : View) : Type 0 where
  pub fixed : (name : ArchiveName) → IsWalName name → is_unsynced v (receipt_name stanza name) ≡ false
  pub receipts : (f : Content) → Leaves v v.moment f → (name : ArchiveName) (sum : Text) → IsWalName name
      → HasReceipt stanza f name sum → (r : Repository) × Reaches q log r × IsDrained r name sum

-- the two disks keep the log
pub record Keeps (stanza : Text) (q : Repository) (log : List Done) (repo spool : View) : Type 0 where
  pub repository : KeepsRepository stanza q log repo
  pub receipts : KeepsSpool stanza q log spool
