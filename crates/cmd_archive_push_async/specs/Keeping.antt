-- What a drain is in a log of commands, and which receipts it gives.
use Rattle.std.specs.Prelude.{◌≡◌, ◌⊎◌, ◌≤◌, ℕ, List, [], ◌∷◌, ◌++◌, false, Option, Some, None, IsSome, IfSome, is_some}
use Rattle.base_devices.specs.Content.{Content}
use Rattle.base_devices.specs.Crash.{Leaves}
use Rattle.base_devices.specs.Moments.{View, is_unsynced}
use Rattle.base_devices.specs.DataFolder.{Nodes}
use Rattle.base_model.specs.declared.clusters.Cluster.{Cluster}
use Rattle.base_model.specs.declared.wal.ArchiveId.{ArchiveId}
use Rattle.base_model.specs.declared.wal.ArchiveName.{ArchiveName}
use Rattle.base_model.specs.Fields.{at_number}
use Rattle.base_model.specs.Log.{HasReceipt}
use Rattle.base_model.specs.Names.{receipt_name}
use Rattle.base_model.specs.Now.{NowRepresents}
use Rattle.base_model.specs.Repository.{Stanza, Repository, id_of, current_number}
use Rattle.base_model.specs.Represents.{IsWalName}
use Rattle.base_model.specs.Steady.{IsSteady}
use Rattle.base_model.specs.Steps.{Named, Turn, ArchivePushAsync, ArchivePushDrain}
use Rattle.base_model.specs.Text.{Text}
use Rattle.base_model.specs.Walks.{IsSynced}
use Rattle.cmd_types.specs.declared.stages.plan.SyncScope.TheVariants.{Whole}
use Rattle.cmd_types.specs.DisksEffect.{Reached, to_end, stopped, DisksEffect}
use Rattle.archive_lookup.specs.Stored.{StoresOnly}
use Rattle.archive_lookup.specs.Turns.{HadReceipt, IsStoredBy}
use Rattle.cmd_archive_push_async.specs.declared.files.push_marks.Drained.{Drained}
use Rattle.cmd_archive_push_async.specs.Draining.{DrainsFrom}
use Rattle.cmd_archive_push_async.specs.Fates.{kept_files}
use Rattle.cmd_archive_push_async.specs.Putting.{AreApart}

-- the stanza's current cluster has this id
abbrev pub IsCurrentId : Stanza → ArchiveId → Type 0
IsCurrentId s id = (c : Cluster) × (at_number (current_number s) s.history ≡ Some c) × (id ≡ id_of c)

-- what the disk holds represents no repository but one of a stanza whose current cluster has this id
pub record IsUnderCurrent (stanza : Text) (id : ArchiveId) (now : Option Content) : Type 0 where
  pub is : (r : Repository) → IsSome now → NowRepresents stanza r now → (s : Stanza) × (r ≡ Some s) × IsCurrentId s id

-- how far a drain came
abbrev pub reached_of : Option Drained → Reached
reached_of (Some drained) = to_end
reached_of None = stopped

-- the drain of these files, as a step of other processes
abbrev pub turn_of : Option Drained → ArchiveId → List Named → Turn
turn_of end id files = record { id = id; pushed = files; ended = is_some end }

-- no receipt is unsynced
abbrev pub HasNoUnsynced : Text → View → Type 0
HasNoUnsynced stanza spool = (name : ArchiveName) → IsWalName name → is_unsynced spool (receipt_name stanza name) ≡
    false

-- It begins from a repository of which all that a crash leaves represents one. At each moment each receipt that the
-- spool has, or a crash leaves, is an earlier one, or of one of the files of this step of others. The repository and
-- all that a crash leaves of it then have that file.
pub record GivesStored (stanza : Text) (t : Turn) (repo new_repo spool new_spool : View) : Type 0 where
  pub each : (r : Repository) → IsSome repo.now → IsSome spool.now → IsSteady stanza r repo → HasNoUnsynced stanza spool
      →
      (m : ℕ) (f : Content) → spool.moment ≤ m → m ≤ new_spool.moment → Leaves new_spool m f →
      (name : ArchiveName) (sum : Text) → IsWalName name → HasReceipt stanza f name sum
      → HadReceipt stanza spool name sum ⊎ IsStoredBy stanza t name sum new_repo

-- the disk stores the file under this id with this sum alone; and where no name that is looked at was unsynced, so does
-- all that a crash leaves of it
pub record IsHeld (stanza : Text) (id : ArchiveId) (name : ArchiveName) (sum : Text) (old new : View) : Type 0 where
  pub now : IfSome new.now (λ g. StoresOnly stanza id name g sum)
  pub lasts : IsSynced stanza old → (g : Content) → Leaves new new.moment g → StoresOnly stanza id name g sum

-- At each moment each receipt that the spool has, or a crash leaves, is an earlier one, or of a file that the
-- repository holds as the drain ends, whatever else lies there.
pub record GivesHeld (stanza : Text) (id : ArchiveId) (repo new_repo spool new_spool : View) : Type 0 where
  pub each : IsSome repo.now → IsSome spool.now → HasNoUnsynced stanza spool
      → (m : ℕ) (f : Content) → spool.moment ≤ m → m ≤ new_spool.moment → Leaves new_spool m f
      → (name : ArchiveName) (sum : Text) → IsWalName name → HasReceipt stanza f name sum
      → HadReceipt stanza spool name sum ⊎ IsHeld stanza id name sum repo new_repo

-- The drain of these names, from what the spool held. Under the id of the current cluster it is a command of the log:
-- it stores these files, all of them where it succeeds; and to processes that wait for it, it is a step of others. At
-- each moment of either disk all that a crash leaves is that of the log with a part of it. Each receipt that it gives
-- is of a file that, as it ends, the repository and all that a crash leaves of it have; where each name is there once,
-- this holds whatever else the repository holds.
pub record DrainsLog (stanza : Text) (id : ArchiveId) (system : ℕ) (f : Nodes) (names : List ArchiveName)
    (end : Option Drained) (held : Option Content) (repo new_repo spool new_spool : View) : Type 0 where
  pub drains : DrainsFrom stanza id system f names end held repo new_repo spool new_spool
  pub runs : IsUnderCurrent stanza id repo.now
      → DisksEffect Whole stanza (ArchivePushDrain (kept_files drains.entries ++ drains.more)) (reached_of end) repo
      spool
      new_repo new_spool
  pub waited : IsUnderCurrent stanza id repo.now
      → DisksEffect Whole stanza (ArchivePushAsync (turn_of end id (kept_files drains.entries ++ drains.more) ∷ []))
      (reached_of end) repo spool new_repo new_spool
  pub receipts : AreApart names → GivesHeld stanza id repo new_repo spool new_spool
  pub gives : IsUnderCurrent stanza id repo.now
      → GivesStored stanza (turn_of end id (kept_files drains.entries ++ drains.more)) repo new_repo spool new_spool
