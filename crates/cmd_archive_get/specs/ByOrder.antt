-- What archive-get and its parts do between two states of the repository and of the data folder. `disk` and `folder`
-- say what is known of each.
use Rattle.std.specs.Prelude.{◌≡◌, Bool, List, Option, Some, Result, IfErr, IfSome, IsSome}
use Rattle.base_devices.specs.Cause.{Rises}
use Rattle.base_devices.specs.Content.{Content}
use Rattle.base_devices.specs.Crash.{Leaves}
use Rattle.base_devices.specs.States.{DiskState, DataFolderState}
use Rattle.base_model.specs.declared.clusters.ArchiveInfo as rust_archive_info
use Rattle.base_model.specs.declared.clusters.ClusterId.{ClusterId}
use Rattle.base_model.specs.declared.wal.ArchiveId.{ArchiveId}
use Rattle.base_model.specs.declared.wal.ArchiveName.{ArchiveName}
use Rattle.base_model.specs.Fields.{at_number}
use Rattle.base_model.specs.Now.{NowRepresents}
use Rattle.base_model.specs.Repository.{Stanza}
use Rattle.base_model.specs.Text.{Text}
use Rattle.base_model.specs.Values.{archive_info_of}
use Rattle.base_model.specs.Walks.{IsSynced}
use Rattle.repo_stanza.specs.declared.control.Control.{Control}
use Rattle.repo_stanza.specs.Pairs.{identity_kept, identity_known}
use Rattle.archive_lookup.specs.declared.stored.files.Stored.{Stored}
use Rattle.cmd_types.specs.declared.stages.halt.Halt.{Halt}
use Rattle.cmd_types.specs.declared.stages.halt.Halt.TheVariants.{Refused}
use Rattle.cmd_types.specs.declared.stages.outcome.Outcome.{Outcome}
use Rattle.cmd_types.specs.Current.{HasValue}
use Rattle.cmd_types.specs.DisksEffect.{PairAlike}
use Rattle.cmd_types.specs.Halts.{HaltCause, Never}
use Rattle.cmd_types.specs.Risen.{none, rose_in}
use Rattle.cmd_archive_get.specs.declared.fault.GetFault.{GetFault}
use Rattle.cmd_archive_get.specs.declared.fault.GetFault.TheVariants.{StanzaMismatch}
use Rattle.cmd_archive_get.specs.declared.order.GetOrder.{GetOrder}
use Rattle.cmd_archive_get.specs.declared.served_file.Copied.{Copied}
use Rattle.cmd_archive_get.specs.declared.served_file.Passed.{Passed}
use Rattle.cmd_archive_get.specs.Getting.{served_path, IsFound, IsAbsent, IsServed, ChangesPath, FetchCause, GotBy, GivenBy, GetCause}
use Rattle.cmd_archive_get.specs.Looking.{FindsIn, FindsUnder, IsLookedUp}
use Rattle.cmd_archive_get.specs.Serving.{RoseIn, EitherFailed, Copies, AreStoredAt, Passes, PassCause, IsLeft, EndsAlike, Puts}
use Rattle.cmd_archive_get.specs.Serving.{AreBytes, IsUnstored, FileCause, AreBytesUnder, IsUnstoredUnder, UnderCause}
use Rattle.cmd_archive_get.specs.Serving.{AreFoundIn, IsAbsentIn, SearchCause}

-- ---- a copy and a pass

-- the data folder failed, or memory did
abbrev pub FolderEnds : DataFolderState → DataFolderState → Halt GetFault → Type 0
FolderEnds old new = HaltCause Never (RoseIn ⊥ (Rises old.faults new.faults))

-- the stored file was copied to the name, as the result says
abbrev pub CopiesFrom : Result (Option Copied) (Halt GetFault) → DiskState → Text → Text → DataFolderState
    → DataFolderState → Type 0
CopiesFrom result repo from name old new = Copies result repo.view.now from name old.nodes new.nodes

module _ {D T : Type 0} (disk : D → DiskState) (folder : T → DataFolderState) where
  -- the repository or the data folder failed, or memory did
  abbrev pub CopyEnds : D → D → T → T → Halt GetFault → Type 0
  CopyEnds repo new_repo tree new_tree =
      HaltCause Never (EitherFailed (disk repo) (disk new_repo) (folder tree) (folder new_tree))

  -- the stored file with this sum was put at the path, as the result says
  abbrev pub PassesOn : Result Passed (Halt GetFault) → Text → Text → Text → D → T → T → Type 0
  PassesOn result from sum path repo tree new_tree =
      Passes result (disk repo).view.now from sum path (folder tree).nodes (folder new_tree).nodes

  -- at the path is what was there, or the stored file with this sum
  abbrev pub SetsStored : Text → Text → Text → D → T → T → Type 0
  SetsStored from sum path repo tree new_tree = ChangesPath path
      (AreStoredAt (disk repo).view.now from sum) (folder tree).nodes (folder new_tree).nodes

  -- why it wasn't put there
  abbrev pub PassStops : {R : Type 0} → Text → Text → Result R (Halt GetFault) → D → D → T → T → Type 0
  PassStops from sum result repo new_repo tree new_tree = IfErr result (HaltCause
      (PassCause (disk repo).view.now from sum)
      (EitherFailed (disk repo) (disk new_repo) (folder tree) (folder new_tree)))

  -- ---- a file under an id

  -- its bytes were put at the order's path, or the id doesn't have it
  abbrev pub PutsOfId : Text → ArchiveId → GetOrder → Result Bool (Halt GetFault) → D → T → T → Type 0
  PutsOfId stanza id order result repo tree new_tree = Puts result
      (AreBytes stanza id order.name (disk repo).view.now)
      (IsUnstored stanza id order.name (disk repo).view.now)
      order.inside.now (folder tree).nodes (folder new_tree).nodes

  -- at the order's path is what was there, or its bytes
  abbrev pub SetsOfId : Text → ArchiveId → GetOrder → D → T → T → Type 0
  SetsOfId stanza id order repo tree new_tree = ChangesPath order.inside.now
      (AreBytes stanza id order.name (disk repo).view.now) (folder tree).nodes (folder new_tree).nodes

  -- why it isn't served
  abbrev pub StopsOfId : {R : Type 0} → Text → ArchiveId → GetOrder → Result R (Halt GetFault) → D → D → T → T
      → Type 0
  StopsOfId stanza id order result repo new_repo tree new_tree = IfErr result (HaltCause
      (FileCause stanza id order.name (disk repo).view.now)
      (EitherFailed (disk repo) (disk new_repo) (folder tree) (folder new_tree)))

  -- ---- a file under the id of a cluster

  -- the same for what the repository held, and of all that a crash leaves
  abbrev pub PutsUnder : ClusterId → Text → Control → GetOrder → Result Bool (Halt GetFault) → D → D → T → T → Type 0
  PutsUnder cluster stanza known order result repo new_repo tree new_tree = (f : Option Content)
      → IsLeft stanza (disk repo).view (disk new_repo).view f → Puts result
      (AreBytesUnder cluster stanza known order.name f)
      (IsUnstoredUnder cluster stanza known order.name f)
      order.inside.now (folder tree).nodes (folder new_tree).nodes

  abbrev pub SetsUnder : ClusterId → Text → Control → GetOrder → D → T → T → Type 0
  SetsUnder cluster stanza known order repo tree new_tree = ChangesPath order.inside.now
      (AreBytesUnder cluster stanza known order.name (disk repo).view.now)
      (folder tree).nodes (folder new_tree).nodes

  abbrev pub StopsUnder : {R : Type 0} → ClusterId → Text → Control → GetOrder → Result R (Halt GetFault)
      → D → D → T → T → Type 0
  StopsUnder cluster stanza known order result repo new_repo tree new_tree = IfErr result (HaltCause
      (UnderCause cluster stanza known order.name (disk repo).view.now)
      (EitherFailed (disk repo) (disk new_repo) (folder tree) (folder new_tree)))

  -- ---- a file under the highest id of a history that has it

  abbrev pub PutsIn : List ClusterId → Text → Control → GetOrder → Result Bool (Halt GetFault) → D → D → T → T
      → Type 0
  PutsIn history stanza known order result repo new_repo tree new_tree = (f : Option Content)
      → IsLeft stanza (disk repo).view (disk new_repo).view f → Puts result
      (AreFoundIn history stanza known order.name f)
      (IsAbsentIn history stanza known order.name f)
      order.inside.now (folder tree).nodes (folder new_tree).nodes

  abbrev pub SetsIn : List ClusterId → Text → Control → GetOrder → D → T → T → Type 0
  SetsIn history stanza known order repo tree new_tree = ChangesPath order.inside.now
      (AreFoundIn history stanza known order.name (disk repo).view.now)
      (folder tree).nodes (folder new_tree).nodes

  abbrev pub StopsIn : {R : Type 0} → List ClusterId → Text → Control → GetOrder → Result R (Halt GetFault)
      → D → D → T → T → Type 0
  StopsIn history stanza known order result repo new_repo tree new_tree = IfErr result (HaltCause
      (SearchCause history stanza known order.name (disk repo).view.now)
      (EitherFailed (disk repo) (disk new_repo) (folder tree) (folder new_tree)))

  -- ---- a file of the stanza whose archive pair has this value

  abbrev pub PutsFound : Text → Control → rust_archive_info.ArchiveInfo → GetOrder → Result Bool (Halt GetFault)
      → D → D → T → T → Type 0
  PutsFound stanza known info order result repo new_repo tree new_tree = (f : Option Content)
      → IsLeft stanza (disk repo).view (disk new_repo).view f
      → IfSome f (λ f. HasValue stanza f (archive_info_of info)) → Puts result
      (IsFound stanza known order.name f)
      (IsAbsent stanza known order.name f)
      order.inside.now (folder tree).nodes (folder new_tree).nodes

  abbrev pub SetsFound : Text → Control → GetOrder → D → T → T → Type 0
  SetsFound stanza known order repo tree new_tree = ChangesPath order.inside.now
      (IsFound stanza known order.name (disk repo).view.now) (folder tree).nodes (folder new_tree).nodes

  abbrev pub GetStops : {R : Type 0} → Text → Control → GetOrder → Result R (Halt GetFault) → D → D → T → T → Type 0
  GetStops stanza known order result repo new_repo tree new_tree = IfErr result (HaltCause
      (FetchCause stanza known order.name (disk repo).view.now)
      (EitherFailed (disk repo) (disk new_repo) (folder tree) (folder new_tree)))

  -- ---- the command

  -- the data folder has the file of the repository, or is unchanged where the repository doesn't have it
  abbrev pub GotByOrder : Text → GetOrder → D → T → T → Outcome → Type 0
  GotByOrder stanza order repo tree new_tree = GotBy stanza order.folder.now order.word.now order.path.now
      (disk repo).view.now (folder tree).nodes (folder new_tree).nodes

  -- so it is in all that a crash leaves, where no name that is looked at was unsynced
  abbrev pub GotFromLeft : Text → GetOrder → D → D → T → T → Outcome → Type 0
  GotFromLeft stanza order repo new_repo tree new_tree outcome = IsSynced stanza (disk repo).view
      → IsSome (disk repo).view.now → PairAlike stanza (disk repo).view → (f : Content)
      → Leaves (disk new_repo).view (disk new_repo).view.moment f
      → GotBy stanza order.folder.now order.word.now order.path.now
      (Some f) (folder tree).nodes (folder new_tree).nodes outcome

  -- the data folder has what the stanza that the repository represents has archived
  abbrev pub GivenByOrder : Text → GetOrder → D → T → T → Outcome → Type 0
  GivenByOrder stanza order repo tree new_tree outcome = (s : Stanza) → IsSome (disk repo).view.now
      → NowRepresents stanza (Some s) (disk repo).view.now
      → GivenBy s order.folder.now order.word.now order.path.now
      (folder tree).nodes (folder new_tree).nodes outcome

  -- at the path is what was there, or the file of the repository
  abbrev pub SetsServed : Text → GetOrder → D → T → T → Type 0
  SetsServed stanza order repo tree new_tree = ChangesPath (served_path order.folder.now order.path.now)
      (IsServed stanza order.folder.now order.word.now order.path.now (disk repo).view.now (folder tree).nodes)
      (folder tree).nodes (folder new_tree).nodes

  -- why the command ends without it
  abbrev pub GetEnds : Text → GetOrder → D → D → T → T → Halt GetFault → Type 0
  GetEnds stanza order repo new_repo tree new_tree = HaltCause
      (GetCause stanza order.folder.now order.word.now order.path.now (disk repo).view.now (folder tree).nodes)
      (rose_in (record none {
        repo = Rises (disk repo).faults (disk new_repo).faults;
        tree = Rises (folder tree).faults (folder new_tree).faults;
      }))

-- all that a crash leaves is alike at the file's paths, where no name that is looked at was unsynced
abbrev pub LeavesAlike : Text → ArchiveId → ArchiveName → DiskState → DiskState → Type 0
LeavesAlike stanza id name old new = EndsAlike stanza id name old.view new.view

-- the refusal of a stanza whose current cluster isn't the data folder's
abbrev pub IsMismatchOf : rust_archive_info.ArchiveInfo → Control → Halt GetFault → Type 0
IsMismatchOf info known halt = (c : ClusterId) × (at_number info.current info.history.items ≡ Some c)
    × (halt ≡ Refused (StanzaMismatch (identity_kept c) (identity_known known)))

-- ---- where a file is stored

module _ {D : Type 0} (disk : D → DiskState) where
  -- this was found under the id of a cluster, in what the repository held and in all that a crash leaves
  abbrev pub FoundUnder : ClusterId → Text → Control → ArchiveName → D → D → Option Stored → Type 0
  FoundUnder cluster stanza known name old new found = (f : Option Content)
      → IsLeft stanza (disk old).view (disk new).view f → FindsUnder cluster stanza known name found f

  -- why it isn't known
  abbrev pub LookStops : ClusterId → Text → Control → ArchiveName → D → D → Halt GetFault → Type 0
  LookStops cluster stanza known name old new = HaltCause
      (UnderCause cluster stanza known name (disk old).view.now) (RoseIn (Rises (disk old).faults (disk new).faults) ⊥)

  -- .. under the ids of a history
  abbrev pub FoundAmong : List ClusterId → Text → Control → ArchiveName → D → D → Option Stored → Type 0
  FoundAmong history stanza known name old new found = (f : Option Content)
      → IsLeft stanza (disk old).view (disk new).view f → IfSome f (FindsIn history stanza known name found)

  abbrev pub SearchStops : List ClusterId → Text → Control → ArchiveName → D → D → Halt GetFault → Type 0
  SearchStops history stanza known name old new = HaltCause
      (SearchCause history stanza known name (disk old).view.now) (RoseIn (Rises (disk old).faults (disk new).faults) ⊥)

  -- .. under the ids of the stanza whose archive pair has this value
  abbrev pub LooksUp : Text → Control → rust_archive_info.ArchiveInfo → ArchiveName → D → D → Option Stored → Type 0
  LooksUp stanza known info name old new found = (f : Option Content)
      → IsLeft stanza (disk old).view (disk new).view f → IfSome f (λ f. HasValue stanza f (archive_info_of info))
      → IsLookedUp stanza known name found f

  abbrev pub FindStops : Text → Control → ArchiveName → D → D → Halt GetFault → Type 0
  FindStops stanza known name old new = HaltCause
      (FetchCause stanza known name (disk old).view.now) (RoseIn (Rises (disk old).faults (disk new).faults) ⊥)
