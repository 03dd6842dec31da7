-- Why a part of a running server's backup ends the command: words over its devices, before and after. Own.
use Rattle.std.specs.Prelude.{List, map}
use Rattle.base_devices.specs.declared.data_folder.FolderEntry as rust_seen
use Rattle.base_devices.specs.Links.{LinkState}
use Rattle.base_devices.specs.States.{ClockState, ConnectionState, DataFolderState, DiskState, ClockFailed, DiskFailed, FolderFailed, ServerFailed}
use Rattle.base_model.specs.Text.{Text}
use Rattle.base_model.specs.Values.{archive_info_of, backup_info_of}
use Rattle.worker_pool.specs.declared.pool.Pool.{Pool}
use Rattle.worker_pool.specs.Pools.{links_in}
use Rattle.archive_lookup.specs.Turns.{ProcessesState}
use Rattle.backup_plan.specs.Views.{seen_of}
use Rattle.backup_make.specs.declared.backup_close.Closed.{Closed}
use Rattle.backup_make.specs.Staged.{closed_draft, closed_ends, closed_online}
use Rattle.server_talk.specs.declared.backups.begun.Begun.{Begun}
use Rattle.server_talk.specs.Causes.{StopCause}
use Rattle.cmd_types.specs.declared.stages.halt.Halt.{Halt}
use Rattle.cmd_types.specs.declared.stages.object.Object.TheVariants.{Server}
use Rattle.cmd_types.specs.Halts.{HaltCause, Never, Only}
use Rattle.cmd_types.specs.Risen.{none, rose_in}
use Rattle.cmd_backup_common.specs.declared.parts.fault.BackupFault.{BackupFault}
use Rattle.cmd_backup_common.specs.declared.parts.order.KnownStanza.{KnownStanza}
use Rattle.cmd_backup_common.specs.declared.parts.order.TakeOrder.{TakeOrder}
use Rattle.cmd_backup_common.specs.Halting.{RepoOrClockFailed}
use Rattle.cmd_backup_common.specs.Used.{used_in}
use Rattle.cmd_backup_offline.specs.declared.fault.OfflineFault.{OfflineFault}
use Rattle.cmd_backup_offline.specs.declared.order.BackupBasis.{BackupBasis}
use Rattle.cmd_backup_offline.specs.declared.order.OfflineOrder.{OfflineOrder}
use Rattle.cmd_backup_offline.specs.Basis.{basis_files}
use Rattle.cmd_backup_online.specs.declared.backup_finish.NeededLog.{NeededLog}
use Rattle.cmd_backup_online.specs.declared.fault.OnlineBackupFault.{OnlineBackupFault}
use Rattle.cmd_backup_online.specs.declared.order.OnlineTask.{OnlineTask}
use Rattle.cmd_backup_online.specs.declared.order.ServerTask.{ServerTask}
use Rattle.cmd_backup_online.specs.Causes.{OnlineCause}
use Rattle.cmd_backup_online.specs.Drafting.{UndraftedCause}
use Rattle.cmd_backup_online.specs.Finishing.{OfTake, PublishCause, VainCause}
use Rattle.cmd_backup_online.specs.Gathering.{GatherCause}
use Rattle.cmd_backup_online.specs.Modelled.{OfTalk}
use Rattle.cmd_backup_online.specs.Preparing.{PrepareCause, ReadyCause}
use Rattle.cmd_backup_online.specs.Talking.{SpokenCause}
use Rattle.cmd_backup_online.specs.Tasks.{asked_task}

-- ---- before the server is asked

-- the workers aren't ready
abbrev pub ReadyHalts : {L S : Type 0} → TakeOrder → KnownStanza → (L → LinkState) → Pool L S → Halt BackupFault
    → Type 0
ReadyHalts order stanza of pool = HaltCause
    (ReadyCause stanza.control.now (archive_info_of stanza.archive.now) (backup_info_of stanza.backup)
    (used_in order of pool)) (λ _. ⊥)

-- it isn't prepared
abbrev pub PrepareHalts : {L S D C : Type 0} → OfflineOrder → KnownStanza → (L → LinkState) → Pool L S
    → (D → DiskState) → D → D → (C → ClockState) → C → C → Halt OfflineFault → Type 0
PrepareHalts order stanza of pool state before after clock first last = HaltCause
    (PrepareCause stanza.name.now order.kind stanza.control.now (archive_info_of stanza.archive.now)
    (backup_info_of stanza.backup) (state before).view.now (clock first).least (used_in order.take of pool))
    (RepoOrClockFailed (state before) (state after) (clock first) (clock last))

-- ---- while the server is in its backup

-- the folder isn't listed
abbrev pub ListHalts : {T C : Type 0} → (T → DataFolderState) → T → T → (C → ClockState) → C → C → Halt BackupFault
    → Type 0
ListHalts folder tree new_tree clock first last = HaltCause Never (rose_in (record none {
  tree = FolderFailed (folder tree) (folder new_tree);
  clock = ClockFailed (clock first) (clock last);
}))

-- there is no draft
abbrev pub UndraftedHalts : {L S : Type 0} → BackupBasis → List rust_seen.FolderEntry → (L → LinkState) → Pool L S
    → Halt BackupFault → Type 0
UndraftedHalts b seen of pool = HaltCause
    (UndraftedCause (map seen_of seen) (links_in of pool) pool.lost.items (basis_files b)) (λ _. ⊥)

-- the folder isn't read
abbrev pub GatherHalts : {L S D T C : Type 0} → ServerTask → (L → LinkState) → Pool L S → (D → DiskState) → D → D
    → (T → DataFolderState) → T → T → (C → ClockState) → C → C → Halt BackupFault → Type 0
GatherHalts task of pool state before after folder tree new_tree clock first last = HaltCause
    (GatherCause task.basis.stanza.now task.basis.order (folder tree).nodes (backup_info_of task.next.list)
    (basis_files task.basis) (links_in of pool) pool.lost.items)
    (rose_in (record none {
      repo = DiskFailed (state before) (state after);
      tree = FolderFailed (folder tree) (folder new_tree);
      clock = ClockFailed (clock first) (clock last);
    }))

-- the server doesn't stop its backup
abbrev pub StopHalts : Begun → ConnectionState → ConnectionState → Halt OnlineBackupFault → Type 0
StopHalts begun old new = HaltCause (OfTalk (StopCause begun old.pending new.pending ⊥))
    (Only Server (ServerFailed old new))

-- or doesn't start one, or the folder isn't read meanwhile
abbrev pub TalkHalts : {L S D T V C : Type 0} → ServerTask → (L → LinkState) → Pool L S → (D → DiskState) → D → D
    → (T → DataFolderState) → T → T → (V → ConnectionState) → V → V → (C → ClockState) → C → C
    → Halt OnlineBackupFault → Type 0
TalkHalts task of pool state before after folder tree new_tree connection server new_server clock first last =
    HaltCause
    (SpokenCause task.basis.stanza.now task.basis.order (folder tree).nodes (backup_info_of task.next.list)
    (basis_files task.basis) (links_in of pool) pool.lost.items task.system
    (connection server).pending (connection new_server).pending)
    (rose_in (record none {
      repo = DiskFailed (state before) (state after);
      tree = FolderFailed (folder tree) (folder new_tree);
      server = ServerFailed (connection server) (connection new_server);
      clock = ClockFailed (clock first) (clock last);
    }))

-- ---- afterwards

-- the backup isn't ended
abbrev pub EndHalts : {D C : Type 0} → (D → DiskState) → D → D → (C → ClockState) → C → C → Halt OnlineBackupFault
    → Type 0
EndHalts state before after clock first last = HaltCause Never
    (RepoOrClockFailed (state before) (state after) (clock first) (clock last))

-- its part of the log isn't archived
abbrev pub WaitHalts : {A D S : Type 0} → Text → NeededLog → (A → ProcessesState) → A → A → (D → DiskState) → D → D
    → (S → DiskState) → S → S → Halt OnlineBackupFault → Type 0
WaitHalts stanza log others first last state before after spool old new = HaltCause
    (VainCause stanza log.id log.wal log.most (state after).view.now (others first).turns (others last).turns)
    (rose_in (record none {
      repo = DiskFailed (state before) (state after);
      spool = DiskFailed (spool old) (spool new);
    }))

-- it isn't published
abbrev pub PublishHalts : Closed → DiskState → DiskState → Halt OnlineBackupFault → Type 0
PublishHalts c old new = HaltCause (OfTake (PublishCause (closed_draft c) (closed_online c) (closed_ends c)))
    (rose_in (record none { repo = DiskFailed old new }))

-- the whole command ends
abbrev pub OnlineHalts : {L P A D S T V C : Type 0} → OnlineTask → (L → LinkState) → Pool L P
    → (A → ProcessesState) → A → A → (D → DiskState) → D → D → (S → DiskState) → S → S
    → (T → DataFolderState) → T → T → (V → ConnectionState) → V → V → (C → ClockState) → C → C
    → Halt OnlineBackupFault → Type 0
OnlineHalts task of pool others one other state before after spool old new folder tree new_tree connection server
    new_server clock first last = HaltCause
    (OnlineCause (asked_task task of pool (others one) (others other) (state before) (state after) (folder tree)
    (connection server) (connection new_server) (clock first)))
    (rose_in (record none {
      repo = DiskFailed (state before) (state after);
      spool = DiskFailed (spool old) (spool new);
      tree = FolderFailed (folder tree) (folder new_tree);
      server = ServerFailed (connection server) (connection new_server);
      clock = ClockFailed (clock first) (clock last);
    }))
