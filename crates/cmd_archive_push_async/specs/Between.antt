-- What the parts of a drain do between two states of the repository, of the spool and of the data folder. `disk`,
-- `spooled` and `folder` say what is known of each.
use Rattle.std.specs.Prelude.{◌≡◌, ◌∷◌, [], ℕ, List, Some, Result, IfOk, IfSome, IsSome, OnOk, is_ok}
use Rattle.base_devices.specs.Cause.{Rises}
use Rattle.base_devices.specs.Content.{LiesDirectlyIn}
use Rattle.base_devices.specs.Crash.{NowChanges, FirstOf, AllOf}
use Rattle.base_devices.specs.DataFolder.{Nodes}
use Rattle.base_devices.specs.Moments.{SyncsFolders}
use Rattle.base_devices.specs.States.{DiskState, DataFolderState}
use Rattle.base_model.specs.declared.clusters.ClusterId.{ClusterId}
use Rattle.base_model.specs.declared.wal.ArchiveId.{ArchiveId}
use Rattle.base_model.specs.declared.wal.ArchiveName.{ArchiveName}
use Rattle.base_model.specs.Names.{wal_text}
use Rattle.base_model.specs.Now.{NowRepresents}
use Rattle.base_model.specs.Represents.{IsWalName}
use Rattle.base_model.specs.Repository.{Stanza}
use Rattle.base_model.specs.Steps.{ArchivePushDrain, Named}
use Rattle.base_model.specs.Text.{Text, In}
use Rattle.base_model.specs.Walks.{IsSynced}
use Rattle.repo_stanza.specs.declared.control.Control.{Control}
use Rattle.cmd_types.specs.declared.stages.halt.Halt.{Halt}
use Rattle.cmd_types.specs.declared.stages.object.Object.{Object}
use Rattle.cmd_types.specs.declared.stages.object.Object.TheVariants.{Spool, TheDataFolder}
use Rattle.cmd_types.specs.declared.stages.outcome.Outcome.{Outcome}
use Rattle.cmd_types.specs.declared.stages.plan.SyncScope.TheVariants.{Whole}
use Rattle.cmd_types.specs.Current.{HasCurrent, id_kept}
use Rattle.cmd_types.specs.DisksEffect.{On, one, to_end, DisksEffect}
use Rattle.cmd_types.specs.Halts.{HaltCause, Never, Only}
use Rattle.cmd_types.specs.Reached.{OnFinished, reached_by}
use Rattle.cmd_types.specs.Risen.{rose_in}
use Rattle.cmd_archive_push.specs.declared.fault.PushFault.{PushFault}
use Rattle.cmd_archive_push.specs.LogFile.{known_file}
use Rattle.cmd_archive_push.specs.Putting.{Puts}
use Rattle.cmd_archive_push.specs.WalPath.{wal_path}
use Rattle.archive_spool.specs.Marks.{named, GivesMarks}
use Rattle.cmd_archive_push_async.specs.declared.files.push_marks.Drained.{Drained}
use Rattle.cmd_archive_push_async.specs.declared.files.pushing.Tried.{Tried}
use Rattle.cmd_archive_push_async.specs.declared.files.target.Target.{Target}
use Rattle.cmd_archive_push_async.specs.Drained.{AreLasting, IsDrainOf, IsDrained, DrainCause, drain_early}
use Rattle.cmd_archive_push_async.specs.Draining.{Drains, end_of}
use Rattle.cmd_archive_push_async.specs.Ends.{EndCause, EndCauseOf, three}
use Rattle.cmd_archive_push_async.specs.Fates.{HasNoOther, HasOther, kept_of, kept_files, marks_of, IsFateOf}
use Rattle.cmd_archive_push_async.specs.Keeping.{GivesHeld}
use Rattle.cmd_archive_push_async.specs.Putting.{PutsOne}
use Rattle.cmd_archive_push_async.specs.Ready.{IsReadyAs}
use Rattle.cmd_archive_push_async.specs.Pushing.{stored_of, tried_of, fate_of, ShowsSum}
use Rattle.cmd_archive_push_async.specs.Storing.{GoesByStores}
use Rattle.cmd_archive_push_async.specs.Whole.{DrainsNamed, DrainsReady, EndCauseReady, marks_folder}

-- ---- the repository alone

-- it puts some files under this id, whatever is known of the data folder
abbrev pub PutsSome : Text → ArchiveId → DiskState → DiskState → Type 0
PutsSome stanza id old new = (files : List Named) × Puts stanza id files old.view new.view

-- .. under the id of the stanza's current cluster
abbrev pub PutsByCurrent : Text → DiskState → DiskState → Type 0
PutsByCurrent stanza old new = (c : ClusterId) × IfSome old.view.now (λ f. HasCurrent stanza f c)
    × PutsSome stanza (id_kept c) old new

-- ---- the spool alone

-- the spool failed, or memory did
abbrev pub SpoolEnds : DiskState → DiskState → Halt PushFault → Type 0
SpoolEnds old new = HaltCause Never (Only Spool (Rises old.faults new.faults))

-- the names of marks are synced
abbrev pub SyncsMarks : Text → DiskState → DiskState → Type 0
SyncsMarks stanza old new = SyncsFolders (LiesDirectlyIn (marks_folder stanza)) old.view new.view

-- at each moment what is new of receipts is that of the file that was tried, where it was stored
abbrev pub GivesMarkOf : Text → ArchiveName → Tried → DiskState → DiskState → Type 0
GivesMarkOf stanza name tried old new = (bytes : Text) → ShowsSum tried bytes → IsWalName name
    → GivesMarks stanza (kept_of name (fate_of tried bytes)) old.view new.view

-- the file that was tried is marked or not
abbrev pub MayMark : Text → ArchiveName → Tried → DiskState → DiskState → Type 0
MayMark stanza name tried old new = (bytes : Text) → ShowsSum tried bytes
    → NowChanges (FirstOf (marks_of stanza name (fate_of tried bytes))) old.view.now new.view.now

-- it is marked
abbrev pub IsMarkedAs : Text → ArchiveName → Tried → DiskState → DiskState → Type 0
IsMarkedAs stanza name tried old new = (bytes : Text) → ShowsSum tried bytes
    → NowChanges (AllOf (marks_of stanza name (fate_of tried bytes))) old.view.now new.view.now

-- ---- the data folder alone

-- the data folder failed, or memory did
abbrev pub FolderFails : DataFolderState → DataFolderState → Halt PushFault → Type 0
FolderFails old new = HaltCause Never (Only TheDataFolder (Rises old.faults new.faults))

-- the sum that is given of a file that was stored is that of its bytes
abbrev pub ShowsSumOf : ArchiveName → DataFolderState → Tried → Type 0
ShowsSumOf name tree tried = (bytes : Text)
    → known_file tree.nodes (wal_path (wal_text name)) ≡ Some bytes → ShowsSum tried bytes

-- ---- a file that is pushed

module _ {D T : Type 0} (disk : D → DiskState) (folder : T → DataFolderState) where
  -- the repository changes by the store of the file, as far as the result says
  abbrev pub GoesByPush : Target → ArchiveName → Result Tried (Halt PushFault) → D → D → T → Type 0
  GoesByPush to name result repo new_repo tree = (bytes : Text)
      → known_file (folder tree).nodes (wal_path (wal_text name)) ≡ Some bytes
      → GoesByStores to.stanza.now to.id (stored_of result (named name bytes)) (tried_of result (named name bytes))
      (disk repo).view (disk new_repo).view

  -- it puts the file at most, and this then lies of it there
  abbrev pub PutsLog : Target → ArchiveName → Result Tried (Halt PushFault) → D → D → T → Type 0
  PutsLog to name result repo new_repo tree = (bytes : Text)
      → known_file (folder tree).nodes (wal_path (wal_text name)) ≡ Some bytes
      → PutsOne to.stanza.now to.id to.system name bytes result (disk repo).view (disk new_repo).view

  -- this became of the file in the stanza that the repository represents
  abbrev pub HasFate : Target → ArchiveName → D → T → Tried → Type 0
  HasFate to name repo tree tried = (bytes : Text)
      → known_file (folder tree).nodes (wal_path (wal_text name)) ≡ Some bytes → (s : Stanza)
      → IsSome (disk repo).view.now → NowRepresents to.stanza.now (Some s) (disk repo).view.now
      → IsFateOf (HasNoOther s to.id name) (HasOther s to.id name) to.system name bytes (fate_of tried bytes)

  -- why it is neither stored nor refused for its content
  abbrev pub PushStops : Target → ArchiveName → D → D → T → T → Halt PushFault → Type 0
  PushStops to name repo new_repo tree new_tree = HaltCause
      (EndCause to.stanza.now to.id (folder tree).nodes (disk new_repo).view.now name)
      (rose_in (three (Rises (disk repo).faults (disk new_repo).faults) ⊥
      (Rises (folder tree).faults (folder new_tree).faults)))

-- ---- files that are drained

module _ {D S T : Type 0} (disk : D → DiskState) (spooled : S → DiskState) (folder : T → DataFolderState) where
  -- one of the three failed
  abbrev pub OneFails : D → D → S → S → T → T → Object → Type 0
  OneFails repo new_repo spool new_spool tree new_tree = rose_in (three
      (Rises (disk repo).faults (disk new_repo).faults)
      (Rises (spooled spool).faults (spooled new_spool).faults)
      (Rises (folder tree).faults (folder new_tree).faults))

  -- the two disks change by a drain of the file of this name
  abbrev pub Records : Target → ArchiveName → Result Drained (Halt PushFault) → D → D → S → S → T
      → Type 0
  Records to name result repo new_repo spool new_spool tree = (f : Nodes)
      → (folder tree).nodes ≡ Some f → Drains to.stanza.now to.id to.system f (name ∷ []) (end_of result)
      (disk repo).view (disk new_repo).view (spooled spool).view (spooled new_spool).view

  -- .. of the files of these names
  abbrev pub DrainsFiles : Target → List ArchiveName → Result Drained (Halt PushFault)
      → D → D → S → S → T → Type 0
  DrainsFiles to names result repo new_repo spool new_spool tree = (f : Nodes)
      → (folder tree).nodes ≡ Some f → Drains to.stanza.now to.id to.system f names (end_of result)
      (disk repo).view (disk new_repo).view (spooled spool).view (spooled new_spool).view

  -- .. after the marks of no use were removed
  abbrev pub DrainsCleared : Target → List ArchiveName → Result Drained (Halt PushFault)
      → D → D → S → S → T → Type 0
  DrainsCleared to names result repo new_repo spool new_spool tree = (f : Nodes)
      → (folder tree).nodes ≡ Some f → DrainsNamed to.stanza.now to.id to.system f names (end_of result)
      (disk repo).view (disk new_repo).view (spooled spool).view (spooled new_spool).view

  -- .. of the files that are ready
  abbrev pub DrainsLogs : Text → ArchiveId → ℕ → Result Drained (Halt PushFault) → D → D → S → S → T → Type 0
  DrainsLogs stanza id system result repo new_repo spool new_spool tree = (f : Nodes)
      → (folder tree).nodes ≡ Some f → DrainsReady stanza id system f (end_of result)
      (disk repo).view (disk new_repo).view (spooled spool).view (spooled new_spool).view

  -- why a drain of the file of this name ends
  abbrev pub EndsAtFile : Target → ArchiveName → D → D → S → S → T → T → Halt PushFault → Type 0
  EndsAtFile to name repo new_repo spool new_spool tree new_tree = HaltCause
      (EndCause to.stanza.now to.id (folder tree).nodes (disk new_repo).view.now name)
      (OneFails repo new_repo spool new_spool tree new_tree)

  -- .. of the files of these names
  abbrev pub EndsAmong : Target → List ArchiveName → D → D → S → S → T → T → Halt PushFault → Type 0
  EndsAmong to names repo new_repo spool new_spool tree new_tree = HaltCause
      (EndCauseOf to.stanza.now to.id (folder tree).nodes (disk new_repo).view.now names)
      (OneFails repo new_repo spool new_spool tree new_tree)

  -- .. of the files that are ready
  abbrev pub EndsAtReady : Text → ArchiveId → D → D → S → S → T → T → Halt PushFault → Type 0
  EndsAtReady stanza id repo new_repo spool new_spool tree new_tree = HaltCause
      (EndCauseReady stanza id (folder tree).nodes (disk new_repo).view.now)
      (OneFails repo new_repo spool new_spool tree new_tree)

  -- ---- the command

  -- it is one command of the log, as far as the result says
  abbrev pub RunsDrain : Text → Result Outcome (Halt PushFault) → D → D → S → S → T → Type 0
  RunsDrain stanza result repo new_repo spool new_spool tree = (f : Nodes) → (folder tree).nodes ≡ Some f
      → On (one (IsDrainOf f (is_ok result))) (λ command. DisksEffect Whole stanza command
      (reached_by drain_early result) (disk repo).view (spooled spool).view (disk new_repo).view
      (spooled new_spool).view)

  -- the files that are ready are drained, where it succeeds, and it is the command that stores these
  abbrev pub Pushes : Text → Control → Result Outcome (Halt PushFault) → D → D → S → S → T → Type 0
  Pushes stanza known result repo new_repo spool new_spool tree = IfOk result (λ o. OnFinished o (λ lines. (f : Nodes)
      → (folder tree).nodes ≡ Some f → (drained : IsDrained stanza f known (disk repo).view.now
      (disk new_repo).view.now (spooled spool).view.now (spooled new_spool).view.now lines)
      × DisksEffect Whole stanza (ArchivePushDrain (kept_files drained.entries)) to_end (disk repo).view
      (spooled spool).view (disk new_repo).view (spooled new_spool).view))

  -- under the id of the stanza's current cluster each receipt that it gives is of a file that the repository holds
  abbrev pub GivesReceipts : Text → D → D → S → S → T → Type 0
  GivesReceipts stanza repo new_repo spool new_spool tree = (c : ClusterId)
      × IfSome (disk repo).view.now (λ f. HasCurrent stanza f c)
      × IfSome (folder tree).nodes (λ f. GivesHeld stanza (id_kept c) (disk repo).view (disk new_repo).view
      (spooled spool).view (spooled new_spool).view)

  -- no name but paths of files that are ready changes, and there the bytes that the data folder has are put
  abbrev pub PutsLogs : Text → D → D → T → Type 0
  PutsLogs stanza repo new_repo tree = (c : ClusterId) × IfSome (disk repo).view.now (λ f. HasCurrent stanza f c)
      × IfSome (folder tree).nodes (λ f. (files : List Named) × ((n : Named) → In n files → IsReadyAs f n)
      × Puts stanza (id_kept c) files (disk repo).view (disk new_repo).view)

  -- in all that a crash leaves the files that were stored have at their paths what the repository has there
  abbrev pub Lasting : Text → Result Outcome (Halt PushFault) → Control → D → D → T → Type 0
  Lasting stanza result known repo new_repo tree = OnOk result (IsSynced stanza (disk repo).view
      → IsSome (disk repo).view.now → IfSome (folder tree).nodes (λ f. AreLasting stanza f known (disk new_repo).view))

  -- why it ends
  abbrev pub DrainEnds : Text → D → D → S → S → T → T → Halt PushFault → Type 0
  DrainEnds stanza repo new_repo spool new_spool tree new_tree = HaltCause
      (DrainCause stanza (disk repo).view.now (disk new_repo).view.now (folder tree).nodes)
      (OneFails repo new_repo spool new_spool tree new_tree)
