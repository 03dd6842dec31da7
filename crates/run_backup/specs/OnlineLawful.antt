-- What the proof of the stages needs of a backup of a running server. Own.
use Rattle.std.specs.Prelude.{◌≡◌, ◌≢◌, ◌≤◌, ◌⊎◌, ℕ, take, List, [], Option, None, Some, IfSome, IsSomeAnd, refl}
use Rattle.std.proofs.Common.{inl, inr, ◌∙◌, sym, ap, arith}
use Rattle.std.proofs.lemmas.List.{append-nil}
use Rattle.base_devices.specs.Content.{Content}
use Rattle.base_devices.specs.Links.{LinkState}
use Rattle.base_model.specs.declared.labels.BackupKind.{BackupKind}
use Rattle.base_model.specs.declared.labels.BackupKind.TheVariants.{Full, Diff, Incr}
use Rattle.base_model.specs.Steps.{MakeBackup, Turn}
use Rattle.base_model.specs.Text.{Text}
use Rattle.archive_lookup.specs.Turns.{Account, ProcessesState, Turned}
use Rattle.archive_wait.specs.TurnsDone.{turns_of}
use Rattle.backup_lemmas.proofs.Reading.{no_files, no_files_beside, no_files_left_beside}
use Rattle.cmd_types.specs.declared.stages.object.Object.{Object}
use Rattle.cmd_types.specs.declared.stages.object.Object.TheVariants.{Server as TheServer}
use Rattle.cmd_stanza_create.specs.Server.{Server}
use Rattle.cmd_stanza_create.proofs.Statuses.{server_not_found}
use Rattle.cmd_backup_offline.proofs.Statuses.{offline_within}
use Rattle.cmd_backup_online.specs.declared.fault.OnlineBackupFault.{OnlineBackupFault}
use Rattle.cmd_backup_online.specs.declared.fault.OnlineBackupFault.TheVariants as faults
use Rattle.cmd_backup_online.specs.Doing.{TakesTurns, IsOnlineBy}
use Rattle.cmd_backup_online.specs.Texts.{online_backup_status}
use Rattle.cmd_backup_online.specs.Touching.{IsOfRunning}
use Rattle.cmd_backup_online.proofs.Statuses.{online_backup_over}
use Rattle.expire_rules.specs.declared.rules.Rules.{Rules}
use Rattle.cmd_trait.specs.KnownWorld.{KnownWorld}
use Rattle.cmd_trait.specs.Meaning.{Place, IsLawful, IsServerRefusal, EndsTalk}
use Rattle.run_backup.specs.Asking.{RunningHow}
use Rattle.run_backup.specs.Lawful.{IsBackupLawful, backup_lawful}
use Rattle.run_backup.specs.OfflineLawful.{change_none, change_on, offline_not_found}
use Rattle.run_backup.specs.Online.{IsOfflineRefusal, OnlyWaits, ShowsLabel, online, backup_online_meaning}

-- ---- which command it is

-- one of any kind that was never listed
none_by : (kind : BackupKind) (links : List LinkState) (turns : List Turn) (label : Option Text) (stanza : Text)
    (old : Option Content) → IsOnlineBy kind links turns label stanza old (MakeBackup turns no_files None)
none_by Full links turns label stanza old = (no_files, refl, no_files_beside links label)
none_by Diff links turns label stanza old = (no_files, refl, no_files_left_beside links label stanza old)
none_by Incr links turns label stanza old = (no_files, refl, no_files_left_beside links label stanza old)

-- no step of others was taken, and the server reported no label file
idle : (stanza : Text) (how : RunningHow) (old new : KnownWorld) → new.others ≡ old.others → (account : Option Account)
    → new.others.account ≡ account → IsSomeAnd account (λ k. k.stanza ≡ stanza)
    → IsSomeAnd account (λ k. (turned : List Turned) × TakesTurns turned old.others.account k
    × (label : Option Text) × IfSome label (ShowsLabel old new)
    × IsOnlineBy how.taken.kind (take how.taken.workers old.links) (turns_of turned) label stanza old.repo
    (MakeBackup [] no_files None))
idle stanza how old new same None is there = absurd there
idle stanza how old new same (Some k) is there = (
  [],
  record {
    before = k.turns;
    was = ap (λ (o : ProcessesState). o.account) (sym same) ∙ is;
    is = sym (append-nil k.turns);
  },
  None,
  tt,
  none_by how.taken.kind (take how.taken.workers old.links) [] None stanza old.repo,
)

-- ---- other processes

none_waited : (most : ℕ) (others : ProcessesState) → OnlyWaits most others others
none_waited most others = record {
  started = refl;
  turns = (0, omega arith, record { none = λ is. refl; some = λ low. absurd (omega (arith, low)) });
}

-- ---- with which status

not_found : (fault : OnlineBackupFault) → online_backup_status fault ≢ 65
not_found (faults.Take fault) = offline_not_found fault
not_found (faults.Server fault) = server_not_found fault
not_found faults.TablespaceMap = λ e. absurd (omega (arith, e))
not_found (faults.SpanWrong start stop) = λ e. absurd (omega (arith, e))
not_found (faults.NotArrived segment turns) = λ e. absurd (omega (arith, e))
not_found (faults.Ambiguous first second) = λ e. absurd (omega (arith, e))

-- what has such a status, and is no server's answer, was too long or too many
only_many : (n : ℕ) → (n ≤ 46) ⊎ (52 ≤ n) → IsServerRefusal n → 70 ≤ n
only_many n (inl low) (inl is) = absurd (omega (arith, low, is.0))
only_many n (inl low) (inr is) = is.0
only_many n (inr high) (inl is) = absurd (omega (arith, high, is.1))
only_many n (inr high) (inr is) = is.0

any_long : (fault : OnlineBackupFault) → IsOfflineRefusal fault → IsServerRefusal (online_backup_status fault)
    → 70 ≤ online_backup_status fault
any_long (faults.Take fault) any is = only_many _ (offline_within fault).1 is
any_long (faults.Server fault) any is = absurd any
any_long faults.TablespaceMap any is = absurd any
any_long (faults.SpanWrong start stop) any is = absurd any
any_long (faults.NotArrived segment turns) any is = absurd any
any_long (faults.Ambiguous first second) any is = absurd any

-- ---- the talk

more_closes : {P A B C : Type 0} (to : B → C) → P ⊎ (A ⊎ B) → P ⊎ (A ⊎ C)
more_closes to (inl p) = inl p
more_closes to (inr (inl a)) = inr (inl a)
more_closes to (inr (inr b)) = inr (inr (to b))

talk : (server : Server) (how : RunningHow) (p : Place) (old new : KnownWorld) (failed : Object → Type 0)
    (fault : OnlineBackupFault) → IsServerRefusal (online_backup_status fault)
    → (online server how).closes p old new failed fault → EndsTalk old new failed (online_backup_status fault)
talk server how p old new failed fault is (inl x) = inr (inr (any_long fault x.0 is, ap (λ s. s.sent) x.1))
talk server how p old new failed fault is (inr (inl ended)) = inl ended
talk server how p old new failed fault is (inr (inr rose)) = inr (inl rose)

online_laws : (server : Server) (how : RunningHow) → IsBackupLawful (online server how)
online_laws server how = record {
  some = λ p old new same turns. idle p.stanza how old new same new.others.account refl turns;
  closes_more = λ p old new repo failed others to fault h. more_closes (to TheServer) h;
  talk = λ p old new failed fault is same closes. talk server how p old new failed fault is closes;
  changes_none = λ expires p least b k still. change_none p.stanza (IsOfRunning p.stanza) expires least b k still;
  changes_on = λ expires p least b c k still x.
      change_on p.stanza (IsOfRunning p.stanza) expires least b c k still x;
  over = online_backup_over;
  not_found = not_found;
  others_none = λ p others. none_waited how.turns others;
}

-- the laws of a running server's backup
pub backup_online_lawful : (server : Server) (how : RunningHow) (expires : Option Rules)
    → IsLawful (backup_online_meaning server how expires)
backup_online_lawful server how expires = backup_lawful (online server how) (online_laws server how) expires
