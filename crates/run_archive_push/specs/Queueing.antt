-- What archive-push in the background means.
use Rattle.std.specs.Prelude.{◌≡◌, ◌⊎◌, ℕ, true, false, [], Some, IfSome, IsSomeAnd, string_bytes}
use Rattle.sha1.specs.Sha1.{sha1}
use Rattle.base_model.specs.declared.wal.ArchiveName.{ArchiveName}
use Rattle.base_model.specs.Names.{wal_text}
use Rattle.base_model.specs.Steps.{Command}
use Rattle.base_model.specs.Text.{Text}
use Rattle.archive_lookup.specs.Causes.{limit_of}
use Rattle.archive_lookup.specs.Turns.{ProcessesState}
use Rattle.cmd_archive_push.specs.LogFile.{known_file}
use Rattle.cmd_archive_push.specs.WalCause.{WordCause}
use Rattle.cmd_archive_push.specs.WalPath.{IsWalPath, wal_path}
use Rattle.cmd_archive_push_wait.specs.declared.fault.QueueFault.{QueueFault}
use Rattle.cmd_archive_push_wait.specs.Between.{MayStart, TakesFew}
use Rattle.cmd_archive_push_wait.specs.Leaving.{IsAcknowledged}
use Rattle.cmd_archive_push_wait.specs.Pushing.{IsWaitOf, MissCause}
use Rattle.cmd_archive_push_wait.specs.Received.{Received, ReceivedCause}
use Rattle.cmd_types.specs.DisksEffect.{provided}
use Rattle.cmd_types.specs.Reached.{OnFinished}
use Rattle.cmd_trait.specs.KnownWorld.{KnownWorld}
use Rattle.cmd_trait.specs.Meaning.{Place, Disks, Meaning, TurnsKnownIf, nothing, places_plan, usual_meaning}
use Rattle.run_archive_push.specs.declared.fault.QueuedPushFault.{QueuedPushFault}
use Rattle.run_archive_push.specs.declared.fault.QueuedPushFault.TheVariants.{Push, Queue}
use Rattle.run_archive_push.specs.Arguments.{drain_arguments}
use Rattle.run_archive_push.specs.Faults.{queued_push_early, queued_push_message, queued_push_status}

-- it waited for the steps of others by which the account of others continued
abbrev pub IsWait : KnownWorld → KnownWorld → Command → Type 0
IsWait old new command = IsSomeAnd new.others.account (λ k. IsWaitOf old.others.account k command)

-- what a call finds and receives that queues a file of this name and sum, with this spool, and waits for this many steps
-- of others at most
abbrev pub received_for : Place → Text → ℕ → ArchiveName → Text → KnownWorld → KnownWorld → Received
received_for p spool turns name sum old new = record {
  stanza = p.stanza;
  name = name;
  sum = sum;
  arguments = drain_arguments p spool;
  most = turns;
  others = old.others;
  new_others = new.others;
  spool = old.spool;
}

-- A file of the log isn't acknowledged that has this name: the data folder doesn't have it, or with the sum of its
-- bytes it was refused, or isn't stored yet.
pub record WaitCause (p : Place) (path spool : Text) (turns : ℕ) (old new : KnownWorld) (word : Text)
    (fault : QueueFault) : Type 0 where
  pub name : ArchiveName
  pub named : IsWalPath p.data_folder path name
  pub is : word ≡ wal_text name
  pub why : MissCause path (wal_text name) (limit_of name) old.nodes fault
      ⊎ ((sum : Text) × IfSome (known_file old.nodes (wal_path (wal_text name))) (λ bytes. sum ≡ sha1 bytes)
      × ReceivedCause (received_for p spool turns name sum old new) fault)

-- the path names no file of the log
abbrev pub PathCause : Place → Text → QueuedPushFault → Type 0
PathCause p path (Push fault) = WordCause p.data_folder path fault
PathCause p path (Queue name fault) = ⊥

-- or the file isn't acknowledged
abbrev pub QueuedPushCause : Place → Text → Text → ℕ → KnownWorld → KnownWorld → QueuedPushFault → Type 0
QueuedPushCause p path spool turns old new (Push fault) = WordCause p.data_folder path fault
QueuedPushCause p path spool turns old new (Queue name fault) =
    WaitCause p path spool turns old new (string_bytes name) fault

-- A file of the log is stored that has these bytes: a drain has stored a file of its name with their sum, before the
-- command or in one of the steps of others that it waited for. What a step of others stored is in all that a crash
-- leaves.
pub record IsLeftStored (p : Place) (path : Text) (before after : Disks) : Type 0 where
  pub name : ArchiveName
  pub named : IsWalPath p.data_folder path name
  pub stored : IfSome (known_file before.nodes (wal_path (wal_text name)))
      (λ bytes. IfSome after.others.account (λ k. k.stanza ≡ p.stanza
      → IsAcknowledged name (sha1 bytes) before.others.account k before.repo after.repo before.spool))

-- What it does to other processes, whatever the answer: archive-push:async was started for these places, once or not at
-- all, and no more steps of others succeeded than it may wait for.
pub record QueueingEffect (p : Place) (spool : Text) (most : ℕ) (old new : ProcessesState) : Type 0 where
  pub started : MayStart (drain_arguments p spool) old new
  pub few : TakesFew most old new

-- its places are opened, and then it waits for steps of others; it is acknowledged only where the file is stored
abbrev pub queued_push_meaning : (path spool : Text) → (turns : ℕ) → Meaning QueuedPushFault
queued_push_meaning path spool turns = record (usual_meaning queued_push_status queued_push_message) {
  plan = places_plan;
  staged = false;
  spool = Some spool;
  uses = record nothing { turns = true; spool = true };
  unsyncs = true;
  manner = λ p old new. provided (TurnsKnownIf true p.stanza new) (IsWait old new);
  promise = λ p old new outcome. OnFinished outcome (λ lines. lines ≡ []);
  acknowledges = λ p old new. IsLeftStored p path old new;
  arguments = λ p. (name : ArchiveName) × IsWalPath p.data_folder path name;
  arguments_cause = λ p fault. PathCause p path fault;
  cause = λ p old new failed fault. QueuedPushCause p path spool turns old new fault;
  early = queued_push_early;
  repo_effect = λ p least old new. Unit {0};
  others_effect = λ p old new. QueueingEffect p spool turns old new;
}
