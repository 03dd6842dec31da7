-- What archive-push does by its order, between two states of the repository and of the data folder.
use Rattle.std.specs.Prelude.{◌≡◌, ◌∷◌, [], Option, Result, IfSome, IsSome, IsSomeAnd}
use Rattle.base_devices.specs.Cause.{Rises}
use Rattle.base_devices.specs.Crash.{IsAlikeAt}
use Rattle.base_devices.specs.DataFolder.{Nodes}
use Rattle.base_devices.specs.Moments.{View}
use Rattle.base_devices.specs.States.{DiskState, DataFolderState}
use Rattle.base_model.specs.declared.clusters.ClusterId.{ClusterId}
use Rattle.base_model.specs.declared.wal.ArchiveId.{ArchiveId}
use Rattle.base_model.specs.Names.{archive_info, wal_text}
use Rattle.base_model.specs.Steps.{Command}
use Rattle.base_model.specs.Text.{Text}
use Rattle.base_model.specs.Walks.{IsSynced}
use Rattle.repo_pair.specs.Member.{IsMember}
use Rattle.repo_stanza.specs.declared.control.Control.{Control}
use Rattle.cmd_types.specs.declared.stages.halt.Halt.{Halt}
use Rattle.cmd_types.specs.declared.stages.outcome.Outcome.{Outcome}
use Rattle.cmd_types.specs.declared.stages.plan.SyncScope.TheVariants.{Looked}
use Rattle.cmd_types.specs.Current.{AgreesAtPair, HasCurrent, id_kept}
use Rattle.cmd_types.specs.DisksEffect.{RepoEffect}
use Rattle.cmd_types.specs.Halts.{HaltCause}
use Rattle.cmd_types.specs.Reached.{OnFinished, reached_by}
use Rattle.cmd_types.specs.Risen.{none, rose_in}
use Rattle.cmd_archive_push.specs.declared.fault.PushFault.{PushFault}
use Rattle.cmd_archive_push.specs.declared.order.PushOrder.{PushOrder}
use Rattle.cmd_archive_push.specs.Causes.{IsCurrent, IsStored, IsLasting, PushCause}
use Rattle.cmd_archive_push.specs.Commands.{IsPushOf}
use Rattle.cmd_archive_push.specs.Faults.{push_early}
use Rattle.cmd_archive_push.specs.LogFile.{known_file}
use Rattle.cmd_archive_push.specs.Putting.{Puts}
use Rattle.cmd_archive_push.specs.WalPath.{wal_path}

-- the id is that of the current cluster, which is the data folder's
abbrev pub IsIdOfCurrentIn : Text → ArchiveId → Control → DiskState → DataFolderState → Type 0
IsIdOfCurrentIn stanza id known repo tree =
    (c : ClusterId) × (id ≡ id_kept c) × IsCurrent stanza repo.view.now tree.nodes known c

-- the steps of the order's command are done, as far as the result says
abbrev pub DoesPush : Text → PushOrder → DataFolderState → Result Outcome (Halt PushFault) → DiskState → DiskState
    → Type 0
DoesPush stanza order tree result old new = (command : Command)
    → IsSomeAnd tree.nodes (λ f. IsPushOf f order.folder.now order.path.now command)
    → RepoEffect Looked stanza command (reached_by push_early result) old.view new.view

-- the order's file is stored
abbrev pub StoresBy : {D T : Type 0} → (D → DiskState) → (T → DataFolderState) → Text → PushOrder → D → D → T
    → Outcome → Type 0
StoresBy disk folder stanza order old new tree outcome = OnFinished outcome
    (IsStored stanza order.folder.now order.path.now (folder tree).nodes (disk old).view.now (disk new).view.now)

-- Nothing changes but the path of the order's file under the id of the stanza's current cluster, with the sum of the
-- bytes that are put there, and temporary names. Where the data folder's files are known these are its bytes.
pub record PutsOrder (stanza : Text) (order : PushOrder) (old new : View) (nodes : Option Nodes) : Type 0 where
  pub current : ClusterId
  pub of : IfSome old.now (λ f. HasCurrent stanza f current)
  pub bytes : Text
  pub known : IfSome (known_file nodes (wal_path (wal_text order.name))) (λ b. b ≡ bytes)
  pub puts : Puts stanza (id_kept current) (record { name = order.name; bytes = bytes } ∷ []) old new

-- the same on this disk and this data folder
abbrev pub PutsByOrder : Text → PushOrder → DiskState → DiskState → DataFolderState → Type 0
PutsByOrder stanza order old new tree = PutsOrder stanza order old.view new.view tree.nodes

-- where no name that is looked at was unsynced no crash removes it
abbrev pub LastsBy : Text → PushOrder → DiskState → DiskState → Outcome → Type 0
LastsBy stanza order old new outcome = IsSynced stanza old.view → IsSome old.view.now
    → OnFinished outcome (λ lines. IsLasting stanza order.folder.now order.path.now new.view)

-- members of the archive pair that have the same text still do
abbrev pub StaysAgreed : Text → DiskState → DiskState → Type 0
StaysAgreed stanza old new = IfSome old.view.now (AgreesAtPair stanza) → IsSome old.view.now
    → IfSome new.view.now (AgreesAtPair stanza)

-- where no name that is looked at was unsynced, members that a crash leaves as they are still are so left
abbrev pub StaysAlike : Text → DiskState → DiskState → Type 0
StaysAlike stanza old new = IsSynced stanza old.view → IsSome old.view.now
    → IsAlikeAt (IsMember (archive_info stanza)) old.view → IsAlikeAt (IsMember (archive_info stanza)) new.view

-- where no name that is looked at was unsynced, none becomes so
abbrev pub StaysSynced : Text → DiskState → DiskState → Type 0
StaysSynced stanza old new = IsSynced stanza old.view → IsSome old.view.now → IsSynced stanza new.view

-- why the order's file isn't stored
abbrev pub PushEnds : {D T : Type 0} → (D → DiskState) → (T → DataFolderState) → Text → PushOrder → D → D → T → T
    → Halt PushFault → Type 0
PushEnds disk folder stanza order old new tree new_tree = HaltCause
    (PushCause stanza order.folder.now order.path.now (disk old).view.now (folder tree).nodes)
    (rose_in (record none {
      repo = Rises (disk old).faults (disk new).faults;
      tree = Rises (folder tree).faults (folder new_tree).faults;
    }))
