-- What the backup of a running server that is asked for does: words over its devices, before and after. Own.
use Rattle.std.specs.Prelude.{Result}
use Rattle.base_devices.specs.Links.{LinkState}
use Rattle.base_devices.specs.States.{ClockState, ConnectionState, DataFolderState, DiskState}
use Rattle.worker_pool.specs.declared.pool.Pool.{Pool}
use Rattle.archive_lookup.specs.Turns.{ProcessesState}
use Rattle.cmd_types.specs.declared.stages.halt.Halt.{Halt}
use Rattle.cmd_types.specs.declared.stages.outcome.Outcome.{Outcome}
use Rattle.cmd_types.specs.Reached.{OnFinished, reached_by}
use Rattle.cmd_backup_common.specs.Used.{used_in}
use Rattle.cmd_backup_online.specs.declared.fault.OnlineBackupFault.{OnlineBackupFault}
use Rattle.cmd_backup_online.specs.declared.order.OnlineTask.{OnlineTask}
use Rattle.cmd_backup_online.specs.Causes.{Asked}
use Rattle.cmd_backup_online.specs.Doing.{DoesOnline, MarksOnline, Received}
use Rattle.cmd_backup_online.specs.Faults.{online_early}
use Rattle.cmd_backup_online.specs.Taken.{BacksUpOnline}

-- what of the server's bytes describes the backup
abbrev pub received_task : OnlineTask → ConnectionState → ConnectionState → Received
received_task task old new =
    record { system = task.stanza.control.now.system; pending = old.pending; left = new.pending }

-- In the log it is a backup of what the used links read, and, unless it is a full one, of what its prior has, after the
-- steps of others that it waited for.
abbrev pub DoesTask : {L S V A D : Type 0} → OnlineTask → (L → LinkState) → Pool L S
    → Result Outcome (Halt OnlineBackupFault) → (V → ConnectionState) → V → V → (A → ProcessesState) → A → A
    → (D → DiskState) → D → D → Type 0
DoesTask task of pool result connection server new_server others first last state before after =
    DoesOnline task.stanza.name.now task.order.later.kind (used_in task.order.later.take of pool)
    (received_task task (connection server) (connection new_server)) (reached_by online_early result)
    (others first).account (others last).account (state before).view (state after).view

-- the spool's receipts continue by these steps
abbrev pub MarksTask : {A S : Type 0} → OnlineTask → Result Outcome (Halt OnlineBackupFault) → (A → ProcessesState) → A
    → A → DiskState → (S → DiskState) → S → S → Type 0
MarksTask task result others first last repo spool old new =
    MarksOnline task.stanza.name.now (reached_by online_early result) (others first).account (others last).account
    repo.view (spool old).view (spool new).view

-- a backup more is made, of what the folder of the running server showed and of what the server reported
abbrev pub TakesTask : {L S V A D C : Type 0} → OnlineTask → (L → LinkState) → Pool L S → DataFolderState
    → (V → ConnectionState) → V → V → (A → ProcessesState) → A → A → (D → DiskState) → D → D
    → (C → ClockState) → C → C → Outcome → Type 0
TakesTask task of pool tree connection server new_server others one other state before after clock first last
    outcome =
    OnFinished outcome (BacksUpOnline task.stanza.name.now task.stanza.control.now task.order.later tree.nodes
    (received_task task (connection server) (connection new_server)) (used_in task.order.later.take of pool)
    (others one).account (others other).account (state before).view.now (state after).view.now
    (clock first) (clock last))

-- what there is before it, what the server reported and what there is at its end
abbrev pub asked_task : {L S : Type 0} → OnlineTask → (L → LinkState) → Pool L S → ProcessesState → ProcessesState
    → DiskState → DiskState → DataFolderState → ConnectionState → ConnectionState → ClockState → Asked
asked_task task of pool others new_others repo new_repo tree server new_server clock = record {
  before = record {
    stanza = task.stanza.name.now;
    known = task.stanza.control.now;
    repo = repo.view.now;
    nodes = tree.nodes;
    least = clock.least;
    used = used_in task.order.later.take of pool;
  };
  kind = task.order.later.kind;
  received_reply = received_task task server new_server;
  most = task.order.archive_timeout;
  turns = others.turns;
  turned = new_others.turns;
  now = new_repo.view.now;
}
