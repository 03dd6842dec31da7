-- What the parts of a running server's backup leave of its devices: words over these, before and after. Own.
use Rattle.std.specs.Prelude.{◌≡◌, ◌≤◌, ◌⊎◌, ◌++◌, ℕ, List, map, true, option_map, IfSome, Result, Ok, String, string_bytes, is_ok}
use Rattle.std.specs.declared.alloc.Global.{Global}
use Rattle.base_crash_lists.specs.Beside.{StaysBeside}
use Rattle.base_devices.specs.declared.data_folder.FolderEntry as rust_seen
use Rattle.base_devices.specs.Links.{LinkState}
use Rattle.base_devices.specs.States.{ConnectionState, DataFolderState, DiskState, ServerFailed}
use Rattle.base_model.specs.Text.{Text}
use Rattle.base_model.specs.Values.{backup_info_of}
use Rattle.worker_pool.specs.declared.pool.Pool.{Pool}
use Rattle.worker_pool.specs.Pools.{links_in}
use Rattle.archive_lookup.specs.Turns.{ProcessesState}
use Rattle.archive_wait.specs.TurnsDone.{Counts, TurnsDone}
use Rattle.backup_plan.specs.Views.{seen_of}
use Rattle.backup_make.specs.declared.backup_close.Closed.{Closed}
use Rattle.backup_make.specs.declared.draft.Draft.{Draft}
use Rattle.backup_make.specs.declared.online.Online as rust_online
use Rattle.backup_make.specs.Closing.{PublishesAt}
use Rattle.backup_make.specs.Draft.{main_of}
use Rattle.backup_make.specs.Made.{LeavesAlike}
use Rattle.backup_make.specs.Online.{online_of}
use Rattle.backup_make.specs.Staged.{closed_draft, closed_ends, closed_online, fetched_draft}
use Rattle.server_talk.specs.declared.backups.begun.Begun.{Begun}
use Rattle.server_talk.specs.Telling.{starting, stopping}
use Rattle.cmd_types.specs.declared.stages.halt.Halt.{Halt}
use Rattle.cmd_types.specs.declared.stages.outcome.Outcome.{Outcome}
use Rattle.cmd_backup_common.specs.declared.parts.order.KnownStanza.{KnownStanza}
use Rattle.cmd_backup_offline.specs.declared.fault.OfflineFault.{OfflineFault}
use Rattle.cmd_backup_offline.specs.declared.order.BackupBasis.{BackupBasis}
use Rattle.cmd_backup_offline.specs.declared.order.OfflineOrder.{OfflineOrder}
use Rattle.cmd_backup_offline.specs.Basis.{LoadsBase, basis_files}
use Rattle.cmd_backup_offline.specs.Drafting.{IsOfflineOf}
use Rattle.cmd_backup_online.specs.declared.fault.OnlineBackupFault.{OnlineBackupFault}
use Rattle.cmd_backup_online.specs.declared.online_checks.Prepared.{Prepared}
use Rattle.cmd_backup_online.specs.declared.online_read.Gathered.{Gathered}
use Rattle.cmd_backup_online.specs.declared.order.NextBackup.{NextBackup}
use Rattle.cmd_backup_online.specs.declared.order.OnlineOrder.{OnlineOrder}
use Rattle.cmd_backup_online.specs.declared.order.ServerTask.{ServerTask}
use Rattle.cmd_backup_online.specs.Faults.{of_offline}
use Rattle.cmd_backup_online.specs.Finishing.{Publishes}
use Rattle.cmd_backup_online.specs.Gathering.{GivesUp, IsGathered}
use Rattle.cmd_backup_online.specs.Modelled.{ShowsOnline, StopsWith}
use Rattle.cmd_backup_online.specs.Talking.{EndsTalk}

-- ---- the repository and the spool

-- nothing is changed but in this stanza's folders
abbrev pub KeepsBeside : Text → DiskState → DiskState → Type 0
KeepsBeside stanza old new = StaysBeside stanza old.view new.view

-- the same, where others report steps of this stanza alone
abbrev pub StaysIn : {D : Type 0} → Text → ProcessesState → (D → DiskState) → D → D → Type 0
StaysIn stanza processes state before after = IfSome processes.account
    (λ a. a.stanza ≡ stanza → StaysBeside stanza (state before).view (state after).view)

-- the manifest of the backup on which this one is based is that of the disk
abbrev pub PreparesBase : OfflineOrder → KnownStanza → DiskState → Prepared → Type 0
PreparesBase order stanza repo p = LoadsBase stanza.name.now order.kind p.next.list repo p.base

-- ---- the draft

-- it is of these nodes of a running server's folder
abbrev pub IsRunningBy : BackupBasis → NextBackup → List rust_seen.FolderEntry → Draft → Type 0
IsRunningBy b next seen d =
    IsOfflineOf true b.stanza.now b.order (map seen_of seen) (backup_info_of next.list) (basis_files b) next.second d

-- all that the pool's links read of the folder lies in the folder of its label, and isn't listed
abbrev pub GathersOn : {L S T D : Type 0} → ServerTask → (L → LinkState) → Pool L S → (T → DataFolderState) → T
    → (D → DiskState) → D → D → Gathered → Type 0
GathersOn task of pool folder tree state before after =
    IsGathered task.basis.stanza.now task.basis.order (folder tree).nodes (backup_info_of task.next.list)
    (basis_files task.basis) (links_in of pool) pool.lost.items (state before).view (state after).view

-- its draft begins in this second
abbrev pub BeginsAt : ℕ → Gathered → Type 0
BeginsAt second g = (fetched_draft g.fetched).start ≡ second

-- no more than some of it does
abbrev pub GivesUpOn : {T D : Type 0} → ServerTask → (T → DataFolderState) → T → (D → DiskState) → D → D → Type 0
GivesUpOn task folder tree state before after =
    GivesUp task.basis.stanza.now task.basis.order (folder tree).nodes (backup_info_of task.next.list)
    (basis_files task.basis) (state before).view (state after).view

-- the same for what was read before the server stopped its backup
abbrev pub TalkGathers : {L S T D : Type 0} → ServerTask → (L → LinkState) → Pool L S → (T → DataFolderState) → T
    → (D → DiskState) → D → D → Gathered × rust_online.Online → Type 0
TalkGathers task of pool folder tree state before after p = GathersOn task of pool folder tree state before after p.0

-- ---- the server

-- the talk is ended, unless the connection failed or memory ran out
abbrev pub LeavesTalk : ConnectionState → ConnectionState → Halt OnlineBackupFault → Type 0
LeavesTalk old new halt = EndsTalk (ServerFailed old new) new.sent halt

-- so it is, where it began; what is refused before is refused as a stopped server's backup may be
abbrev pub LeavesServer : ConnectionState → ConnectionState → Halt OnlineBackupFault → Type 0
LeavesServer old new halt = ((new ≡ old) × ((before : Halt OfflineFault) × (halt ≡ of_offline before)))
    ⊎ EndsTalk (ServerFailed old new) new.sent halt

-- it reported the stop of the backup that began so
abbrev pub StopsBetween : Begun → ConnectionState → ConnectionState → rust_online.Online → Type 0
StopsBetween begun old new o = StopsWith begun old.pending new.pending (online_of o)

-- a server of this system reported a start and a stop with these
abbrev pub ReportsBoth : ℕ → ConnectionState → ConnectionState → rust_online.Online → Type 0
ReportsBoth system old new o = ShowsOnline system old.pending new.pending (online_of o)

-- it was sent the stop
abbrev pub SendsStop : ConnectionState → ConnectionState → Type 0
SendsStop old new = new.sent ≡ option_map (λ (sent : List ℕ). sent ++ stopping) old.sent

-- it was sent the whole talk
abbrev pub SendsTalk : OnlineOrder → ConnectionState → ConnectionState → Type 0
SendsTalk order old new = new.sent ≡ option_map
    (λ (sent : List ℕ). sent ++ starting order.user.now order.database.now order.fast ++ stopping) old.sent

-- ---- other processes

-- at most this many steps of others succeeded
abbrev pub TurnsWithin : ℕ → ProcessesState → ProcessesState → Type 0
TurnsWithin most old new = (n : ℕ) × (n ≤ most) × Counts n old.turns new.turns

-- the disks are as the steps of others left them, all of which succeeded at Ok
abbrev pub WentOn : {A D S E : Type 0} → Result (Unit {0}) E → (A → ProcessesState) → A → A → (D → DiskState) → D → D
    → (S → DiskState) → S → S → Type 0
WentOn result others first last state before after spool old new = IfSome (others last).account
    (λ a. TurnsDone (is_ok result) (others first).account a (state before).view (state after).view
    (spool old).view (spool new).view)

-- ---- the end

-- the backup was published, of what lies in its label's folder, and the command ended with these lines; or it wasn't
abbrev pub PublishesWith : String Global → Closed → DiskState → DiskState → Result Outcome (Halt OnlineBackupFault)
    → Type 0
PublishesWith lines c old new result =
    Publishes (string_bytes lines) (closed_draft c) (closed_online c) (closed_ends c) old.view new.view result

-- it was published with the second in which it was closed
abbrev pub PublishesClosed : Closed → DiskState → DiskState → Type 0
PublishesClosed c old new = PublishesAt c (Ok tt) old new

-- both members of the backup pair are alike
abbrev pub PublishesAlike : Closed → DiskState → DiskState → Type 0
PublishesAlike c old new = LeavesAlike (main_of (closed_draft c)) old new
