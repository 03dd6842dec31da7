-- What a backup of a running server did, in terms of all objects.
use Rattle.std.proofs.Common.{◌≡◌, ◌⊎◌, inl, inr, ◌++◌, ℕ, Bool, true, List, Option, Some, None, Result, Ok, Err, IfOk, IfErr, refl, sym, ◌∙◌, subst, arith}
use Rattle.std.specs.Prelude.{◌≤◌, take, option_map, IfSome, IsSomeAnd, OnOk}
use Rattle.base_devices.specs.Content.{Content}
use Rattle.base_devices.specs.Links.{LinkState}
use Rattle.base_devices.specs.States.{ClockState, ConnectionState, DataFolderState, DiskState}
use Rattle.base_model.specs.declared.labels.BackupKind.{BackupKind}
use Rattle.base_model.specs.declared.labels.BackupKind.TheVariants.{Full, Diff, Incr}
use Rattle.base_model.specs.Now.{NowEffect}
use Rattle.base_model.specs.Repository.{Backup}
use Rattle.base_model.specs.Steps.{Command, MakeBackup, Turn}
use Rattle.base_model.specs.Text.{Text}
use Rattle.repo_stanza.specs.declared.control.Control.{Control}
use Rattle.server_talk.specs.Telling.{starting, stopping}
use Rattle.archive_lookup.specs.Turns.{Account, ProcessesState, Turned}
use Rattle.archive_wait.specs.TurnsDone.{turns_of}
use Rattle.base_crash_lists.specs.Beside.{StaysBeside}
use Rattle.cmd_types.specs.declared.stages.object.Object.{Object}
use Rattle.cmd_types.specs.declared.stages.object.Object.TheVariants.{Server as TheServer}
use Rattle.cmd_types.specs.declared.stages.halt.Halt.{Halt}
use Rattle.cmd_types.specs.declared.stages.halt.Halt.TheVariants.{Refused, Failed as HaltFailed, NoMemory as HaltMemory}
use Rattle.cmd_types.specs.declared.stages.outcome.Outcome.{Outcome}
use Rattle.cmd_types.specs.declared.stages.outcome.Outcome.TheVariants.{Finished, Absent, FindingsFound}
use Rattle.cmd_types.specs.Cluster.{FolderShows}
use Rattle.cmd_types.specs.Halts.{HaltCause}
use Rattle.cmd_types.specs.Reached.{OnFinished, reached_by}
use Rattle.cmd_types.specs.DisksEffect.{one, On}
use Rattle.cmd_types.specs.World.{World, Failed, AreLater}
use Rattle.cmd_stanza_create.specs.Server.{Server, socket_path}
use Rattle.cmd_backup_offline.specs.declared.fault.OfflineFault.{OfflineFault}
use Rattle.cmd_backup_offline.specs.declared.order.OfflineOrder.{OfflineOrder}
use Rattle.cmd_backup_online.specs.declared.fault.OnlineBackupFault.{OnlineBackupFault}
use Rattle.cmd_backup_online.specs.declared.fault.OnlineBackupFault.TheVariants as faults
use Rattle.cmd_backup_online.specs.Causes.{OnlineCause}
use Rattle.cmd_backup_online.specs.Doing.{TakesTurns, IsOnlineBy, IsOnlineOf, RunsOnline}
use Rattle.cmd_backup_online.specs.Faults.{online_early, of_offline as offline_halt}
use Rattle.cmd_backup_online.specs.Modelled.{IsLabelKnown}
use Rattle.cmd_backup_online.specs.Taken.{BacksUpOnline, IsBackedUpOnline}
use Rattle.cmd_backup_online.specs.Talking.{EndsTalk}
use Rattle.cmd_backup_offline.specs.Touching.{TouchesOneOf}
use Rattle.cmd_backup_online.specs.Touching.{IsOfRunning}
use Rattle.cmd_backup_online.proofs.Later.{backs_up_later}
use Rattle.cmd_backup_online.proofs.Spools.{one_turns}
use Rattle.expire_rules.specs.declared.rules.Rules.{Rules}
use Rattle.cmd_expire.specs.FollowUp.{StaysSound}
use Rattle.cmd_trait.specs.KnownWorld.{KnownWorld, known_world}
use Rattle.cmd_trait.specs.Meaning.{Place}
use Rattle.cmd_trait.specs.Faults.{own_of}
use Rattle.cmd_trait.specs.CallEffect.{PartEffect, SamePlaces}
use Rattle.run_backup.specs.declared.fault.BackupCommandFault.{BackupCommandFault}
use Rattle.run_backup.specs.Asking.{BackupHow, RunningHow}
use Rattle.run_backup.specs.Followed.{FollowsBackup}
use Rattle.run_backup.specs.Offline.{taking_of}
use Rattle.run_backup.specs.Online.{AsksBackup, IsOfflineRefusal, IsRunningOf, OnlyWaits, ShowsLabel, received_by, asked_by, online, backup_online_meaning}
use Rattle.run_backup.proofs.Backups.{IsFollowable, BacksUp, backed_ran}
use Rattle.run_backup.proofs.Followings.{MakesBackup, known_sound}
use Rattle.run_backup.proofs.Offlines.{change_more, change_then}

-- what isn't touched has the count that it had
pub same_count : (n : ℕ) → n ≤ n
same_count n = omega arith

-- ---- which command it is

-- what holds where an account is known and is of the stanza
with_account : (stanza : Text) (account : Option Account) (P : Type 0) → IfSome account (λ n. n.stanza ≡ stanza → P) → IsSomeAnd account (λ n. n.stanza ≡ stanza) → P
with_account stanza None P h known = absurd known
with_account stanza (Some n) P h known = h known

label_known : (old new : KnownWorld) (known : Control) → IfSome old.nodes (λ f. FolderShows f known) → (label : Option Text) → IsLabelKnown known.system old.server.pending new.server.pending label → IfSome label (ShowsLabel old new)
label_known old new known shows None h = tt
label_known old new known shows (Some text) h = (known, shows, h)

-- by the steps of others that the account has
running_steps : (stanza : Text) (how : RunningHow) (old new : KnownWorld) (known : Control) (shows : IfSome old.nodes (λ f. FolderShows f known)) (account : Option Account) (P : Command → Type 0) →
    IfSome account (λ n. n.stanza ≡ stanza → (turned : List Turned) × TakesTurns turned old.others.account n × On (one (IsOnlineOf how.taken.kind (take how.taken.workers old.links) (received_by old new known) stanza old.repo turned)) P) → IsSomeAnd account (λ n. n.stanza ≡ stanza) →
    (command : Command) × IsSomeAnd account (λ n. (turned : List Turned) × TakesTurns turned old.others.account n × (label : Option Text) × IfSome label (ShowsLabel old new) × IsOnlineBy how.taken.kind (take how.taken.workers old.links) (turns_of turned) label stanza old.repo command) × P command
running_steps stanza how old new known shows None P h is = absurd is
running_steps stanza how old new known shows (Some n) P h is = by (h is)
  where
    by : (turned : List Turned) × TakesTurns turned old.others.account n × ((command : Command) × IsOnlineOf how.taken.kind (take how.taken.workers old.links) (received_by old new known) stanza old.repo turned command × P command) →
        (command : Command) × ((turned : List Turned) × TakesTurns turned old.others.account n × (label : Option Text) × IfSome label (ShowsLabel old new) × IsOnlineBy how.taken.kind (take how.taken.workers old.links) (turns_of turned) label stanza old.repo command) × P command
    by (ts, taken, (command, (label, received_is, is_of), p)) = (command, (ts, taken, label, label_known old new known shows label received_is, is_of), p)

-- ---- an expiry may follow it

online_made : (kind : BackupKind) (links : List LinkState) (turns : List Turn) (label : Option Text) (stanza : Text) (old : Option Content) (command : Command) → IsOnlineBy kind links turns label stanza old command → (b : Backup) × (command ≡ MakeBackup turns b None)
online_made Full links turns label stanza old command is = (is.0, is.1)
online_made Diff links turns label stanza old command is = (is.0, is.1)
online_made Incr links turns label stanza old command is = (is.0, is.1)

module _ (stanza : Text) (how : RunningHow) (old new : KnownWorld) where
  running_makes : MakesBackup (IsRunningOf stanza how old new)
  running_makes command is = by new.others.account is
    where
      by : (account : Option Account) → IsSomeAnd account (λ k. (turned : List Turned) × TakesTurns turned old.others.account k × (label : Option Text) × IfSome label (ShowsLabel old new) × IsOnlineBy how.taken.kind (take how.taken.workers old.links) (turns_of turned) label stanza old.repo command)
          → (turns : List Turn) × (b : Backup) × (command ≡ MakeBackup turns b None)
      by None h = absurd h
      by (Some k) (turned, takes, label, known, is) =
          let x = online_made how.taken.kind (take how.taken.workers old.links) (turns_of turned) label stanza old.repo command is in
          (turns_of turned, x.0, x.1)

  -- the steps of others that it waited for are those of its promise
  running_sound : (known : Control) (o : OfflineOrder) (lines : Text) (repo : Option Content) → BacksUpOnline stanza known o old.nodes (received_by old new known) (take how.taken.workers old.links) old.others.account new.others.account old.repo repo old.clock new.clock lines
      → IsSomeAnd new.others.account (λ k. k.stanza ≡ stanza) → (command : Command) → IsRunningOf stanza how old new command → NowEffect stanza command true old.repo repo → StaysSound stanza command old.repo
  running_sound known o lines repo taken there command is done = by new.others.account taken there is
    where
      by : (account : Option Account) → BacksUpOnline stanza known o old.nodes (received_by old new known) (take how.taken.workers old.links) old.others.account account old.repo repo old.clock new.clock lines → IsSomeAnd account (λ k. k.stanza ≡ stanza)
          → IsSomeAnd account (λ k. (turned : List Turned) × TakesTurns turned old.others.account k × (label : Option Text) × IfSome label (ShowsLabel old new) × IsOnlineBy how.taken.kind (take how.taken.workers old.links) (turns_of turned) label stanza old.repo command)
          → StaysSound stanza command old.repo
      by None h of x = absurd of
      by (Some k) h of (turned, takes, label, label_known, is_of) =
          let x = online_made how.taken.kind (take how.taken.workers old.links) (turns_of turned) label stanza old.repo command is_of in
          let y = h of in
          let one = one_turns k old.others.account turned y.0 takes y.1 in
          let t = subst (λ (ts : List Turned). IsBackedUpOnline stanza known o old.nodes (received_by old new known) (take how.taken.workers old.links) ts old.repo repo old.clock new.clock lines) one y.2 in
          known_sound stanza (turns_of turned) t.backup old.repo repo t.adds.adds t.adds.sound x.0 command x.1 done

online_facts : (server : Server) (how : RunningHow) → IsFollowable (online server how)
online_facts server how = record {
  makes = λ p old new. running_makes p.stanza how old new;
  sound = λ p old new repo lines was turns command is done. running_sound p.stanza how old new was.0.2.0 was.0.0 lines repo was.0.2.2 turns command is done;
  makes_on = λ p old new repo clock command is. is;
  changes_none = λ expires p least a b x. change_more p.stanza (IsOfRunning p.stanza) expires least a b x;
  changes_then = λ rules p least a b c x h. change_then p.stanza (IsOfRunning p.stanza) rules least a b c x h;
  promise_on = λ p old new repo clock now lines later was. (
    (
      was.0.0,
      was.0.1,
      (
        was.0.2.0,
        was.0.2.1,
        backs_up_later p.stanza was.0.2.0 was.0.0 old.nodes (received_by old new was.0.2.0) (take how.taken.workers old.links) old.repo now old.clock new.clock clock later lines old.others.account new.others.account was.0.2.2,
      ),
    ),
    was.1,
  );
}

-- ---- the talk

any_refusal : (e : OnlineBackupFault) (x : Halt OfflineFault) → ◌≡◌ {A = Halt OnlineBackupFault} (Refused e) (offline_halt x) → IsOfflineRefusal e
any_refusal e (Refused f) is = let same : e ≡ faults.Take f = cc in subst IsOfflineRefusal (sym same) tt
any_refusal e (HaltFailed object) is = cc
any_refusal e HaltMemory is = cc

-- it was asked at its socket for a backup
pub asks_backup : {T E : Type 0} (r : Result T E) (s : Server) (fast : Bool) (place socket : Text) (old new : Option (List ℕ)) → socket ≡ socket_path s → OnOk r (place ≡ socket) →
    OnOk r (new ≡ option_map (λ said. said ++ starting s.user s.database fast ++ stopping) old) → OnOk r (AsksBackup s fast place old new)
asks_backup (Ok x) s fast place socket old new at there said = (there ∙ at, said)
asks_backup (Err e) s fast place socket old new at there said = tt

-- ---- all of it

ok_with : {E : Type 0} (r : Result Outcome E) (P Q : Text → Type 0) (X : Type 0) → ((lines : Text) → P lines → X → Q lines) → IfOk r (λ o. OnFinished o P) → OnOk r X → IfOk r (λ o. OnFinished o Q)
ok_with (Ok (Finished lines)) P Q X to h x = to _ h x
ok_with (Ok (Absent name)) P Q X to h x = absurd h
ok_with (Ok (FindingsFound lines count)) P Q X to h x = absurd h
ok_with (Err e) P Q X to h x = tt

err_as : (r : Result Outcome (Halt OnlineBackupFault)) (P Q : Halt OnlineBackupFault → Type 0) → ((h : Halt OnlineBackupFault) → P h → Q h) → IfErr r P → IfErr r Q
err_as (Ok x) P Q to h = tt
err_as (Err e) P Q to h = to e h

module _ {D C : Type 0} (p : Place) (server : Server) (fast : Bool) (turns : ℕ) (b : World) (state : D → DiskState) (before after : D) (spool : DiskState) (tree : DataFolderState) (talk : ConnectionState) (others : ProcessesState) (of : C → ClockState) (first last : C) (links : List LinkState) (nodes : tree.nodes ≡ b.tree.nodes) (o : OfflineOrder) (known : Control)
    (shows : IfSome b.tree.nodes (λ f. FolderShows f known)) (made : Result Outcome (Halt OnlineBackupFault)) where
  abbrev repo : DiskState
  repo = state before

  abbrev m : World
  m = record b { repo = state before; spool = spool; tree = tree; server = talk; others = others; clock = of first; links = links }

  abbrev by_order : RunningHow
  by_order = record { taken = taking_of o; fast = fast; turns = turns }

  abbrev used : List LinkState
  used = take o.take.workers b.links

  cause_of : (failed : Object → Type 0) → ((object : Object) → failed object → Failed b m object) → (h : Halt OnlineBackupFault) → HaltCause (OnlineCause (asked_by p.stanza by_order (known_world b) (known_world m) known)) failed h
      → HaltCause ((online server by_order).cause p (known_world b) (known_world m)) (Failed b m) h
  cause_of failed rose (Refused e) why = (known, shows, why)
  cause_of failed rose (HaltFailed object) why = rose object why
  cause_of failed rose HaltMemory why = tt

  closes_of : (h : Halt OnlineBackupFault) → ((talk ≡ b.server) × ((x : Halt OfflineFault) × (h ≡ offline_halt x))) ⊎ EndsTalk (Failed b m TheServer) talk.sent h → HaltCause ((online server by_order).closes p (known_world b) (known_world m) (Failed b m)) (λ object. Unit {0}) h
  closes_of (Refused e) (inl (same, (x, is))) = inl (any_refusal e x is, same)
  closes_of (Refused e) (inr ends) = inr (ends (λ (is : ◌≡◌ {A = Halt OnlineBackupFault} (Refused e) HaltMemory). cc))
  closes_of (HaltFailed object) x = tt
  closes_of HaltMemory x = tt

  backs_up : OnlyWaits turns b.others others → IfSome others.account (λ n. n.stanza ≡ p.stanza → StaysBeside p.stanza b.repo.view repo.view) → IfSome others.account (λ n. n.stanza ≡ p.stanza → TouchesOneOf p.stanza (IsOfRunning p.stanza) b.repo.view repo.view) → IfSome others.account (λ n. n.stanza ≡ p.stanza → StaysBeside p.stanza b.spool.view spool.view) →
      RunsOnline p.stanza o.kind used (received_by (known_world b) (known_world m) known) (reached_by online_early made) b.others.account others.account b.repo.view b.spool.view repo.view spool.view →
      IfOk made (λ outcome. OnFinished outcome (BacksUpOnline p.stanza known o b.tree.nodes (received_by (known_world b) (known_world m) known) used b.others.account others.account b.repo.view.now repo.view.now b.clock (of first))) →
      OnOk made (AsksBackup server fast talk.place b.server.sent talk.sent) →
      IfErr made (λ h. ((talk ≡ b.server) × ((x : Halt OfflineFault) × (h ≡ offline_halt x))) ⊎ EndsTalk (Failed b m TheServer) talk.sent h) → (failed : Object → Type 0) → ((object : Object) → failed object → Failed b m object) →
      IfErr made (HaltCause (OnlineCause (asked_by p.stanza by_order (known_world b) (known_world m) known)) failed) → SamePlaces b m → AreLater b m → BacksUp (online server by_order) p b m made
  backs_up waits beside only spool_beside runs taken asks closed failed rose cause places later = record {
    steps = running_steps p.stanza by_order (known_world b) (known_world m) known shows others.account _ runs;
    promise = ok_with made _ _ _ (λ lines h asked. ((o, refl, (known, shows, h)), asked)) taken asks;
    cause = err_as made _ _ (cause_of failed rose) cause;
    closes = err_as made _ _ closes_of closed;
    beside = with_account p.stanza others.account _ beside;
    spool = with_account p.stanza others.account _ spool_beside;
    changes = with_account p.stanza others.account _ only;
    nodes = nodes;
    server = tt;
    others = waits;
    places = places;
    later = later;
  }

  pub online_ran : (how : BackupHow) → taking_of o ≡ how → OnlyWaits turns b.others others → IfSome others.account (λ n. n.stanza ≡ p.stanza → StaysBeside p.stanza b.repo.view repo.view) → IfSome others.account (λ n. n.stanza ≡ p.stanza → TouchesOneOf p.stanza (IsOfRunning p.stanza) b.repo.view repo.view) → IfSome others.account (λ n. n.stanza ≡ p.stanza → StaysBeside p.stanza b.spool.view spool.view) →
      RunsOnline p.stanza o.kind used (received_by (known_world b) (known_world m) known) (reached_by online_early made) b.others.account others.account b.repo.view b.spool.view repo.view spool.view →
      IfOk made (λ outcome. OnFinished outcome (BacksUpOnline p.stanza known o b.tree.nodes (received_by (known_world b) (known_world m) known) used b.others.account others.account b.repo.view.now repo.view.now b.clock (of first))) →
      OnOk made (AsksBackup server fast talk.place b.server.sent talk.sent) →
      IfErr made (λ h. ((talk ≡ b.server) × ((x : Halt OfflineFault) × (h ≡ offline_halt x))) ⊎ EndsTalk (Failed b m TheServer) talk.sent h) → (failed : Object → Type 0) → ((object : Object) → failed object → Failed b m object) →
      IfErr made (HaltCause (OnlineCause (asked_by p.stanza by_order (known_world b) (known_world m) known)) failed) → SamePlaces b m → AreLater b m → b.clock.least ≤ (of first).least →
      (state after).opened ≡ (state before).opened → (state before).faults ≤ (state after).faults → (of first).faults ≤ (of last).faults →
      (expires : Option Rules) (r : Result Outcome (Halt (BackupCommandFault OnlineBackupFault))) → FollowsBackup p.stanza expires made state before after of first last r →
      PartEffect p (backup_online_meaning server (record { taken = how; fast = fast; turns = turns }) expires) b (record m { repo = state after; clock = of last }) (own_of r)
  online_ran how is waits beside only spool_beside runs taken asks closed failed rose cause places later le opened repo_later clock_later expires r follows =
      subst (λ (x : BackupHow). PartEffect p (backup_online_meaning server (record { taken = x; fast = fast; turns = turns }) expires) b (record m { repo = state after; clock = of last }) (own_of r)) is
      (backed_ran (online server by_order) (online_facts server by_order) p b m state before after of first last le opened repo_later clock_later expires made (backs_up waits beside only spool_beside runs taken asks closed failed rose cause places later) r follows)
