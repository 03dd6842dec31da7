-- What a backup of a running server means (pgBackRest command reference, "Backup Command").
use Rattle.std.specs.Prelude.{◌≡◌, ◌⊎◌, ◌++◌, ℕ, take, Bool, true, List, Option, Some, option_map, IfSome, IsSomeAnd}
use Rattle.base_model.specs.Steps.{Command}
use Rattle.base_model.specs.Text.{Text}
use Rattle.repo_stanza.specs.declared.control.Control.{Control}
use Rattle.server_talk.specs.Sends.{Ended}
use Rattle.server_talk.specs.Telling.{starting, stopping}
use Rattle.archive_lookup.specs.Turns.{ProcessesState, Turned}
use Rattle.archive_wait.specs.TurnsDone.{turns_of}
use Rattle.cmd_types.specs.declared.stages.object.Object.TheVariants.{Server as TheServer}
use Rattle.cmd_stanza_create.specs.Server.{Server, socket_path}
use Rattle.cmd_backup_online.specs.declared.fault.OnlineBackupFault.{OnlineBackupFault}
use Rattle.cmd_backup_online.specs.declared.fault.OnlineBackupFault.TheVariants.{Take}
use Rattle.cmd_backup_online.specs.Causes.{Asked, OnlineCause}
use Rattle.cmd_backup_online.specs.Doing.{Received, TakesTurns, IsOnlineBy}
use Rattle.cmd_backup_online.specs.Modelled.{IsLabelKnown}
use Rattle.cmd_backup_online.specs.Running.{TurnsWithin}
use Rattle.cmd_backup_online.specs.Taken.{BacksUpOnline}
use Rattle.cmd_backup_online.specs.Texts.{online_backup_status, online_backup_message}
use Rattle.cmd_backup_online.specs.Touching.{IsOfRunning}
use Rattle.expire_rules.specs.declared.rules.Rules.{Rules}
use Rattle.cmd_trait.specs.KnownWorld.{KnownWorld}
use Rattle.cmd_trait.specs.Meaning.{Meaning}
use Rattle.run_backup.specs.declared.fault.BackupCommandFault.{BackupCommandFault}
use Rattle.run_backup.specs.Asking.{RunningHow}
use Rattle.run_backup.specs.Following.{BackupMeaning, backup_meaning}
use Rattle.run_backup.specs.Offline.{OnCluster, ByOrder, MayChange, found_by}

-- ---- which command it is

-- the server of the folder's cluster reported this label file
abbrev pub ShowsLabel : KnownWorld → KnownWorld → Text → Type 0
ShowsLabel old new text = OnCluster old.nodes
    (λ known. IsLabelKnown known.system old.server.pending new.server.pending (Some text))

-- Others took these steps, and the command is the backup of this kind of what the links read, after these
-- steps, with the label file that the server reported.
abbrev pub IsRunningOf : Text → RunningHow → KnownWorld → KnownWorld → Command → Type 0
IsRunningOf stanza how old new command = IsSomeAnd new.others.account
    (λ k. (turned : List Turned) × TakesTurns turned old.others.account k
    × (label : Option Text) × IfSome label (ShowsLabel old new)
    × IsOnlineBy how.taken.kind (take how.taken.workers old.links) (turns_of turned) label stanza old.repo command)

-- ---- what it finds and receives

-- what a running server reported to the backup, by its bytes before and after it
abbrev pub received_by : KnownWorld → KnownWorld → Control → Received
received_by old new known = record { system = known.system; pending = old.server.pending; left = new.server.pending }

-- what a running server's backup finds, and its result
abbrev pub asked_by : Text → RunningHow → KnownWorld → KnownWorld → Control → Asked
asked_by stanza how old new known = record {
  before = found_by stanza how.taken.workers old known;
  kind = how.taken.kind;
  received_reply = received_by old new known;
  most = how.turns;
  turns = old.others.turns;
  turned = new.others.turns;
  now = new.repo;
}

-- ---- other processes

-- This program was started no more, and other processes took this many steps at most.
pub record OnlyWaits (most : ℕ) (old new : ProcessesState) : Type 0 where
  pub started : new.started ≡ old.started
  pub turns : TurnsWithin most old new

-- ---- the talk

-- the server was asked at its socket, asked to start a backup and to stop it, and the talk was ended
abbrev pub AsksBackup : Server → Bool → Text → Option (List ℕ) → Option (List ℕ) → Type 0
AsksBackup s fast place old new = (place ≡ socket_path s)
    × (new ≡ option_map (λ said. said ++ starting s.user s.database fast ++ stopping) old)

-- a running server's backup is refused as a stopped one's is
abbrev pub IsOfflineRefusal : OnlineBackupFault → Type 0
IsOfflineRefusal (Take fault) = Unit {0}
IsOfflineRefusal other = ⊥

-- ---- the command

-- The server is asked for it, and each segment of its part of the log is waited for. A talk that a refusal ended was
-- ended with the last message too, unless the connection failed; or it didn't begin.
abbrev pub online : Server → RunningHow → BackupMeaning OnlineBackupFault
online server how = record {
  running = true;
  makes = λ p old new. IsRunningOf p.stanza how old new;
  promise = λ p old new repo lines. ByOrder how.taken (λ o. OnCluster old.nodes (λ known.
      BacksUpOnline p.stanza known o old.nodes (received_by old new known) (take how.taken.workers old.links)
      old.others.account new.others.account old.repo repo old.clock new.clock lines))
      × AsksBackup server how.fast new.server.place old.server.sent new.server.sent;
  cause = λ p old new fault. OnCluster old.nodes (λ known. OnlineCause (asked_by p.stanza how old new known) fault);
  closes = λ p old new failed fault. (IsOfflineRefusal fault × (new.server ≡ old.server))
      ⊎ (Ended new.server.sent ⊎ failed TheServer);
  changes = λ expires p least old new. MayChange p.stanza (IsOfRunning p.stanza) expires least old new;
  status = online_backup_status;
  message = online_backup_message;
  others_effect = λ p old new. OnlyWaits how.turns old new;
}

-- and then the expiry by these rules, where there are some
abbrev pub backup_online_meaning : Server → RunningHow → Option Rules → Meaning (BackupCommandFault OnlineBackupFault)
backup_online_meaning server how expires = backup_meaning (online server how) expires
