-- A backup as a command of the log, and what it holds (pgBackRest user guide, "Backup").
use Rattle.std.specs.Prelude.{◌≡◌, ◌≢◌, ◌⊎◌, ◌↔◌, ◌<◌, ℕ, Bool, true, false, List, [], length, Option, Some, None, IsSome, slice_get}
use Rattle.std.specs.FinMap.{get}
use Rattle.base_devices.specs.declared.data_folder.Node.TheVariants as nodes
use Rattle.base_devices.specs.Content.{Content}
use Rattle.base_devices.specs.Links.{LinkState}
use Rattle.base_devices.specs.DataFolder.{Nodes, file, folder, file_bytes}
use Rattle.base_devices.specs.Moments.{View}
use Rattle.base_model.specs.declared.labels.Label.{Label}
use Rattle.base_model.specs.declared.wal.ArchiveId.{ArchiveId}
use Rattle.base_model.specs.declared.wal.ArchiveName.TheVariants.{Segment as Whole}
use Rattle.base_model.specs.declared.wal.Segment.{Segment}
use Rattle.base_model.specs.declared.wal.WalPart.{WalPart}
use Rattle.base_model.specs.Text.{Text, In}
use Rattle.base_model.specs.Repository.{Archived, Backup, File, Stanza, Repository, IsSound, IsSoundStanza, IsWithinSpan}
use Rattle.base_model.specs.Represents.{HasStanza}
use Rattle.base_model.specs.Steps.{Command, MakeBackup, ArchivePushAsync, AddBackup, Turn, after, all_of, changed, steps_of}
use Rattle.base_model.specs.Now.{NowRepresents, NowEffect}
use Rattle.base_model.specs.Steady.{CarriesOn, PassesOnly}
use Rattle.archive_lookup.specs.Stored.{ChangesArchive}
use Rattle.worker_protocol.specs.declared.frames.frames.Root.TheVariants.{DataFolder}
use Rattle.worker_protocol.specs.Frames.{Item}
use Rattle.worker_pool.specs.Reads.{ReadBy}
use Rattle.backup_plan.specs.Filter.{is_kept}
use Rattle.backup_make.specs.Online.{label_path}

-- one of these links read the bytes in the data folder at the path
abbrev pub IsOfLink : List LinkState → Text → Text → Type 0
IsOfLink links path bytes = (link : ℕ) × (from : LinkState) × (i : Item) × (slice_get links link ≡ Some from)
    × (i.root ≡ DataFolder) × (i.path ≡ path) × ReadBy from.known i bytes

-- each file with bytes has those that one of these links read in the data folder at its path
pub record IsReadBy (links : List LinkState) (b : Backup) : Type 0 where
  pub read : (path : Text) (x : File) → get b.files path ≡ Some x → 0 < length x.bytes → IsOfLink links path x.bytes

-- the same for each but the label file, which has what the server reported
pub record IsReadBeside (links : List LinkState) (known : Option Text) (b : Backup) : Type 0 where
  pub read : (path : Text) (x : File) → get b.files path ≡ Some x → path ≢ label_path → 0 < length x.bytes
      → IsOfLink links path x.bytes
  pub label : (x : File) → get b.files label_path ≡ Some x → known ≡ Some x.bytes

-- the stanza's backup of this label has the file at the path
abbrev pub HasFileOf : Stanza → Label → Text → File → Type 0
HasFileOf s l path x = (p : Backup) × In p s.backups × (p.entry.label ≡ l) × (get p.files path ≡ Some x)

-- The file was left of the prior backup: in whatever stanza the disk had, that has its bytes at the path, and its time
-- unless digests were compared.
pub record IsLeftOf (stanza : Text) (old : Option Content) (b : Backup) (path : Text) (x : File) : Type 0 where
  pub prior : Label
  pub is : b.entry.prior ≡ Some prior
  pub held : (s : Stanza) → IsSome old → NowRepresents stanza (Some s) old
      → (y : File) × HasFileOf s prior path y × (y.bytes ≡ x.bytes) × (b.choices.delta ≡ false → y.time ≡ x.time)

-- each file with bytes has those that one of these links read in the data folder at its path, or was left of the prior
-- backup
pub record IsReadOrLeft (links : List LinkState) (stanza : Text) (old : Option Content) (b : Backup) : Type 0 where
  pub read : (path : Text) (x : File) → get b.files path ≡ Some x → 0 < length x.bytes
      → IsOfLink links path x.bytes ⊎ IsLeftOf stanza old b path x

-- the same for each but the label file, which has what the server reported
pub record IsReadOrLeftBeside (links : List LinkState) (known : Option Text) (stanza : Text) (old : Option Content)
    (b : Backup) : Type 0 where
  pub read : (path : Text) (x : File) → get b.files path ≡ Some x → path ≢ label_path → 0 < length x.bytes
      → IsOfLink links path x.bytes ⊎ IsLeftOf stanza old b path x
  pub label : (x : File) → get b.files label_path ≡ Some x → known ≡ Some x.bytes

-- which command of the log a full backup is that is made of what these links read
abbrev pub IsFullBackup : List LinkState → Command → Type 0
IsFullBackup links command = (b : Backup) × (command ≡ MakeBackup [] b None) × IsReadBy links b

-- which one is a backup of any kind, that is made of what these links read and of what its prior backup has
abbrev pub IsAnyBackup : List LinkState → Text → Option Content → Command → Type 0
IsAnyBackup links stanza old command = (b : Backup) × (command ≡ MakeBackup [] b None) × IsReadOrLeft links stanza old b

-- and which one is that of a running server, which waited for these steps of others, and of which the server reported
-- this label file
abbrev pub IsOnlineBackup : List LinkState → List Turn → Option Text → Command → Type 0
IsOnlineBackup links turns known command = (b : Backup) × (command ≡ MakeBackup turns b None) × IsReadBeside links known
    b

-- the same for a backup of any kind of a running server
abbrev pub IsAnyOnlineBackup : List LinkState → List Turn → Option Text → Text → Option Content → Command → Type 0
IsAnyOnlineBackup links turns known stanza old command = (b : Backup) × (command ≡ MakeBackup turns b None)
    × IsReadOrLeftBeside links known stanza old b

-- what others did while it waited for these steps of others
pub record Waits (stanza : Text) (turns : List Turn) (ended : Bool) (old new : View) : Type 0 where
  pub does : NowEffect stanza (ArchivePushAsync turns) ended old.now new.now
  pub carries : CarriesOn stanza (ArchivePushAsync turns) ended old new
  pub between : PassesOnly stanza (ArchivePushAsync turns) old new
  pub only : ChangesArchive stanza old new
  -- whatever sound repository the disk represented, that is sound with all of them
  pub sound : (r : Repository) → IsSome old.now → NowRepresents stanza r old.now → IsSound r
      → IsSound (after r (all_of (steps_of (ArchivePushAsync turns) r)))

-- each segment of this part of the log is archived under the id
abbrev pub Archives : ArchiveId → WalPart → Stanza → Type 0
Archives id w s = (segment : Segment) → IsWithinSpan w.size.0 w.span segment
    → (a : Archived) × In a s.archived × (a.id ≡ id) × (a.name ≡ Whole segment)

-- so it is in whatever stanza f has
abbrev pub HasPart : Text → ArchiveId → WalPart → Content → Type 0
HasPart stanza id w f = (s : Stanza) → HasStanza stanza f s → Archives id w s

-- the repository has one more backup, and is sound with it where it was
pub record AddsBackup (stanza : Text) (b : Backup) (old new : Option Content) : Type 0 where
  pub adds : (s : Stanza) → IsSome old → NowRepresents stanza (Some s) old
      → NowRepresents stanza (Some (changed (AddBackup b) s)) new
  pub sound : (s : Stanza) → IsSome old → NowRepresents stanza (Some s) old → IsSoundStanza s
      → IsSoundStanza (changed (AddBackup b) s)

-- The backup has all files and folders of the data folder that a backup of a stopped server takes, and nothing else.
pub record IsOfFolder (f : Nodes) (b : Backup) : Type 0 where
  pub has : (path bytes : Text) (time : ℕ) → f path ≡ Some (file bytes time)
      → is_kept false (path, nodes.File (length bytes) time) ≡ true
      → get b.files path ≡ Some (record { bytes = bytes; time = time })
  pub only : (path : Text) (x : File) → get b.files path ≡ Some x
      → (f path ≡ Some (file x.bytes x.time)) × (is_kept false (path, nodes.File (length x.bytes) x.time) ≡ true)
  pub folders : (path : Text) → In path b.folders
      ↔ ((f path ≡ Some folder) × (is_kept false (path, nodes.Folder) ≡ true))

-- what the data folder's files hold
abbrev pub bytes_in : Nodes → Content
bytes_in f = λ path. file_bytes (f path)
