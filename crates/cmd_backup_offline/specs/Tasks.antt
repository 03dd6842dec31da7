-- What the backup that is asked for does, and why it ends early: words over its devices, before and after. Own.
use Rattle.std.specs.Prelude.{List, map, Result}
use Rattle.base_devices.specs.Links.{LinkState}
use Rattle.base_devices.specs.States.{ClockState, DataFolderState, DiskState, ClockFailed, DiskFailed, FolderFailed}
use Rattle.base_model.specs.declared.labels.BackupKind.{BackupKind}
use Rattle.base_model.specs.Text.{Text}
use Rattle.base_model.specs.Values.{backup_info_of}
use Rattle.worker_pool.specs.declared.pool.Pool.{Pool}
use Rattle.worker_pool.specs.Pools.{links_in}
use Rattle.backup_plan.specs.Views.{seen_of}
use Rattle.cmd_types.specs.declared.stages.halt.Halt.{Halt}
use Rattle.cmd_types.specs.declared.stages.outcome.Outcome.{Outcome}
use Rattle.cmd_types.specs.declared.stages.plan.SyncScope.TheVariants.{Whole}
use Rattle.cmd_types.specs.DisksEffect.{Reached, On, one, RepoEffect}
use Rattle.cmd_types.specs.Halts.{HaltCause}
use Rattle.cmd_types.specs.Reached.{OnFinished, reached_by}
use Rattle.cmd_types.specs.Risen.{none, rose_in}
use Rattle.cmd_backup_common.specs.declared.parts.backup_begin.Begun.{Begun}
use Rattle.cmd_backup_common.specs.declared.parts.fault.BackupFault.{BackupFault}
use Rattle.cmd_backup_common.specs.Seconds.{StatesSecond}
use Rattle.cmd_backup_common.specs.Causes.{Before}
use Rattle.cmd_backup_common.specs.Halting.{RepoOrClockFailed}
use Rattle.cmd_backup_common.specs.PartsFaults.{backup_early}
use Rattle.cmd_backup_common.specs.Used.{used_in}
use Rattle.cmd_backup_offline.specs.declared.fault.OfflineFault.{OfflineFault}
use Rattle.cmd_backup_offline.specs.declared.order.BackupBasis.{BackupBasis}
use Rattle.cmd_backup_offline.specs.declared.order.OfflineTask.{OfflineTask}
use Rattle.cmd_backup_offline.specs.Basis.{basis_files}
use Rattle.cmd_backup_offline.specs.Causes.{OfflineCause}
use Rattle.cmd_backup_offline.specs.Faults.{offline_early}
use Rattle.cmd_backup_offline.specs.Kinds.{IsBackupBy}
use Rattle.cmd_backup_offline.specs.Making.{IsMade, MakingCause}
use Rattle.cmd_backup_offline.specs.Taken.{IsTaken}

-- in the log it is a backup of this kind, of what these links read, and comes that far
abbrev pub DoesOf : Text → BackupKind → List LinkState → Reached → DiskState → DiskState → Type 0
DoesOf stanza kind links reached old new = On (one (IsBackupBy kind links stanza old.view.now))
    (λ command. RepoEffect Whole stanza command reached old.view new.view)

-- ---- a backup on its basis

-- in the log it is one of what the pool's links read, and, unless it is a full one, of what its prior has
abbrev pub DoesBackup : {L S D : Type 0} → BackupBasis → (L → LinkState) → Pool L S → Result Outcome (Halt BackupFault)
    → (D → DiskState) → D → D → Type 0
DoesBackup b of pool result state before after =
    DoesOf b.stanza.now b.order.kind (links_in of pool) (reached_by backup_early result) (state before) (state after)

-- it is made of what the listing shows, besides those of the list
abbrev pub MakesBackup : {L S D C : Type 0} → BackupBasis → Begun → (L → LinkState) → Pool L S → (D → DiskState) → D → D
    → (C → ClockState) → C → C → Outcome → Type 0
MakesBackup b begun of pool state before after clock first last outcome = OnFinished outcome
    (IsMade b.stanza.now b.order (backup_info_of begun.list) (map seen_of begun.seen.items) (links_in of pool)
    (state before).view.now (state after).view.now (clock first) (clock last))

-- why it isn't
abbrev pub MakingHalts : {L S D C : Type 0} → BackupBasis → Begun → (L → LinkState) → Pool L S → (D → DiskState) → D → D
    → (C → ClockState) → C → C → Halt BackupFault → Type 0
MakingHalts b begun of pool state before after clock first last = HaltCause
    (MakingCause b.stanza.now b.order (map seen_of begun.seen.items) (backup_info_of begun.list) (basis_files b)
    (clock first).least (StatesSecond b.stanza.now (backup_info_of begun.list) (state before).view.now)
    (links_in of pool) pool.lost.items)
    (RepoOrClockFailed (state before) (state after) (clock first) (clock last))

-- ---- the whole command

-- in the log it is a backup of what the used links read, and, unless it is a full one, of what its prior has
abbrev pub DoesOffline : {L S D : Type 0} → OfflineTask → (L → LinkState) → Pool L S
    → Result Outcome (Halt OfflineFault) → (D → DiskState) → D → D → Type 0
DoesOffline task of pool result state before after =
    DoesOf task.stanza.name.now task.order.kind (used_in task.order.take of pool) (reached_by offline_early result)
    (state before) (state after)

-- a backup more is made, of what the folder of the stopped server shows
abbrev pub MakesIt : {L S T D C : Type 0} → OfflineTask → (L → LinkState) → Pool L S → (T → DataFolderState) → T
    → (D → DiskState) → D → D → (C → ClockState) → C → C → Outcome → Type 0
MakesIt task of pool folder tree state before after clock first last outcome = OnFinished outcome
    (IsTaken task.stanza.name.now task.stanza.control.now task.order (folder tree).nodes
    (used_in task.order.take of pool) (state before).view.now (state after).view.now (clock first) (clock last))

-- what there is before it
abbrev pub before_task : {L S : Type 0} → OfflineTask → (L → LinkState) → Pool L S → DiskState → DataFolderState
    → ClockState → Before
before_task task of pool repo tree clock = record {
  stanza = task.stanza.name.now;
  known = task.stanza.control.now;
  repo = repo.view.now;
  nodes = tree.nodes;
  least = clock.least;
  used = used_in task.order.take of pool;
}

-- why it isn't made
abbrev pub OfflineHalts : {L S D T C : Type 0} → OfflineTask → (L → LinkState) → Pool L S → (D → DiskState) → D → D
    → (T → DataFolderState) → T → T → (C → ClockState) → C → C → Halt OfflineFault → Type 0
OfflineHalts task of pool state before after folder tree new_tree clock first last = HaltCause
    (OfflineCause (before_task task of pool (state before) (folder tree) (clock first)) task.order)
    (rose_in (record none {
      repo = DiskFailed (state before) (state after);
      tree = FolderFailed (folder tree) (folder new_tree);
      clock = ClockFailed (clock first) (clock last);
    }))
