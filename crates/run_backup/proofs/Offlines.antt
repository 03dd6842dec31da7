-- What a backup of a stopped server did, in terms of all objects.
use Rattle.std.proofs.Common.{◌≡◌, inl, inr, ℕ, true, List, [], ◌∷◌, Option, Some, None, Result, Ok, Err, IfOk, IfErr, refl, sym, subst, arith}
use Rattle.std.specs.Prelude.{◌≤◌, take, Contains, IfSome, IsSomeAnd}
use Rattle.base_devices.specs.Content.{Name, Content}
use Rattle.base_devices.specs.DataFolder.{Nodes}
use Rattle.base_devices.specs.Links.{LinkState}
use Rattle.base_devices.specs.Moments.{View}
use Rattle.base_devices.specs.States.{ClockState, DataFolderState, DiskState}
use Rattle.base_model.specs.declared.labels.BackupKind.{BackupKind}
use Rattle.base_model.specs.declared.labels.BackupKind.TheVariants.{Full, Diff, Incr}
use Rattle.base_model.specs.declared.labels.Label.{Label}
use Rattle.base_model.specs.declared.wal.ArchiveName.{ArchiveName}
use Rattle.base_model.specs.Log.{Done, IsDrained, KeepsSpool, Reaches}
use Rattle.base_model.specs.Now.{NowEffect}
use Rattle.base_model.specs.Repository.{Backup, Repository}
use Rattle.base_model.specs.Steps.{Command, MakeBackup, after, all_of, steps_of}
use Rattle.base_model.specs.Text.{Text}
use Rattle.repo_stanza.specs.declared.control.Control.{Control}
use Rattle.archive_store.specs.Still.{still_self}
use Rattle.base_crash_lists.specs.Beside.{StaysBeside}
use Rattle.backup_lemmas.specs.Backups.{AddsBackup}
use Rattle.cmd_types.specs.declared.stages.object.Object.{Object}
use Rattle.cmd_types.specs.declared.stages.halt.Halt.{Halt}
use Rattle.cmd_types.specs.declared.stages.halt.Halt.TheVariants.{Refused, Failed as HaltFailed, NoMemory as HaltMemory}
use Rattle.cmd_types.specs.declared.stages.outcome.Outcome.{Outcome}
use Rattle.cmd_types.specs.declared.stages.outcome.Outcome.TheVariants.{Finished, Absent, FindingsFound}
use Rattle.cmd_types.specs.declared.stages.plan.SyncScope.TheVariants.{Whole}
use Rattle.cmd_types.specs.Cluster.{FolderShows}
use Rattle.cmd_types.specs.Halts.{HaltCause}
use Rattle.cmd_types.specs.Plans.{backup_lock}
use Rattle.cmd_types.specs.Reached.{OnFinished, reached_by}
use Rattle.cmd_types.specs.DisksEffect.{On, one, RepoEffect}
use Rattle.cmd_types.specs.World.{World, Failed, AreLater}
use Rattle.cmd_types.proofs.Besides.{still_beside}
use Rattle.cmd_types.proofs.Lifted.{does_runs}
use Rattle.cmd_setup.specs.declared.ready.Ready.{Ready}
use Rattle.cmd_setup.specs.Readies.{IsReady}
use Rattle.cmd_backup_offline.specs.declared.fault.OfflineFault.{OfflineFault}
use Rattle.cmd_backup_offline.specs.declared.order.OfflineOrder.{OfflineOrder}
use Rattle.cmd_backup_offline.specs.Causes.{OfflineCause}
use Rattle.cmd_backup_offline.specs.Faults.{offline_early}
use Rattle.cmd_backup_offline.specs.Held.{IsHeld}
use Rattle.cmd_backup_offline.specs.Kinds.{IsBackupBy}
use Rattle.cmd_backup_offline.specs.Taken.{IsTaken}
use Rattle.cmd_backup_offline.specs.Touching.{TouchesOne, TouchesOneOf}
use Rattle.cmd_backup_offline.proofs.Takings.{made_later}
use Rattle.expire_rules.specs.declared.rules.Rules.{Rules}
use Rattle.cmd_expire.specs.Changing.{Expires}
use Rattle.cmd_expire.proofs.Changing.{both_change, expires_on, expires_still, none_then}
use Rattle.backup_make.specs.Touched.{TouchesOnly, IsOfBackup}
use Rattle.cmd_expire.specs.FollowUp.{StaysSound}
use Rattle.cmd_trait.specs.KnownWorld.{known_world}
use Rattle.cmd_trait.specs.Meaning.{Place}
use Rattle.cmd_trait.specs.Faults.{own_of}
use Rattle.cmd_trait.specs.CallEffect.{PartEffect, SamePlaces}
use Rattle.run_backup.specs.declared.fault.BackupCommandFault.{BackupCommandFault}
use Rattle.run_backup.specs.Asking.{BackupHow}
use Rattle.run_backup.specs.Followed.{FollowsBackup}
use Rattle.run_backup.specs.Following.{backup_stages}
use Rattle.run_backup.specs.Offline.{MayChange, found_by, taking_of, offline, backup_offline_meaning}
use Rattle.run_backup.specs.Touchings.{touched_frame}
use Rattle.run_backup.proofs.Backups.{IsFollowable, BacksUp, backed_ran}
use Rattle.run_backup.proofs.Followings.{MakesBackup, known_sound}

-- ---- what the stages made ready

-- a backup has its lock
pub backup_held : (stanza : Text) (taken : List Text) → taken ≡ backup_lock stanza ∷ [] → IsHeld (backup_lock stanza) taken
unfolding IsHeld
backup_held stanza taken alone = subst (λ (l : List Text). Contains l (backup_lock stanza)) (sym alone) (0, omega arith, refl)

there : {T : Type 0} (o : Option T) (x : T) (P : T → Type 0) → o ≡ Some x → IsSomeAnd o P → P x
there o x P is h = subst (λ (y : Option _). IsSomeAnd y P) is h

pub backup_shows : (stanza : Text) (repo : Option Content) (nodes : Option Nodes) (ready : Ready) → IsReady backup_stages stanza repo nodes ready → (known : Control) → ready.control ≡ Some known → IfSome nodes (λ f. FolderShows f known)
backup_shows stanza repo nodes ready is_ready known some = there ready.control known _ some (is_ready.control refl)

-- ---- the spool

-- a backup removes nothing of what a drain has stored
backup_drained : (b : Backup) (q : Repository) (log : List Done) (name : ArchiveName) (sum : Text) (r : Repository) → Reaches q log r → IsDrained r name sum →
    (x : Repository) × Reaches q (record { command = MakeBackup [] b None; acknowledged = true } ∷ log) x × IsDrained x name sum
backup_drained b q log name sum None reached drained = absurd drained
backup_drained b q log name sum (Some s) reached drained = (
  after (Some s) (all_of (steps_of (MakeBackup [] b None) (Some s))),
  (Some s, reached, (all_of (steps_of (MakeBackup [] b None) (Some s)), refl, refl)),
  drained,
)

backup_receipts : (stanza : Text) (b : Backup) (command : Command) → command ≡ MakeBackup [] b None → (v : View) (q : Repository) (log : List Done) → KeepsSpool stanza q log v → KeepsSpool stanza q (record { command = command; acknowledged = true } ∷ log) v
backup_receipts stanza b command is v q log keeps = subst (λ (c : Command). KeepsSpool stanza q (record { command = c; acknowledged = true } ∷ log) v) (sym is) (record {
  fixed = keeps.fixed;
  receipts = λ f leaves name sum fits receipt. let x = keeps.receipts f leaves name sum fits receipt in backup_drained b q log name sum x.0 x.1 x.2;
})

-- whichever kind it is of
kind_receipts : (kind : BackupKind) (stanza : Text) (links : List LinkState) (old : Option Content) (command : Command) → IsBackupBy kind links stanza old command → (v : View) (q : Repository) (log : List Done) → KeepsSpool stanza q log v → KeepsSpool stanza q (record { command = command; acknowledged = true } ∷ log) v
kind_receipts Full stanza links old command is = backup_receipts stanza is.0 command is.1
kind_receipts Diff stanza links old command is = backup_receipts stanza is.0 command is.1
kind_receipts Incr stanza links old command is = backup_receipts stanza is.0 command is.1

-- ---- an expiry may follow it

-- a later state of the clock is as good
taken_later : (stanza : Text) (known : Control) (o : OfflineOrder) (nodes : Option Nodes) (used : List LinkState) (old new : Option Content) (clock mid last : ClockState) → mid.least ≤ last.least → (lines : Text) → IsTaken stanza known o nodes used old new clock mid lines → IsTaken stanza known o nodes used old new clock last lines
taken_later stanza known o nodes used old new clock mid last later lines t = record {
  list = t.list;
  seen = t.seen;
  room = t.room;
  listing = t.listing;
  stopped = t.stopped;
  made = made_later stanza o t.list t.seen used old new clock mid last later lines t.made;
}

makes_backup : (kind : BackupKind) (links : List LinkState) (stanza : Text) (old : Option Content) → MakesBackup (IsBackupBy kind links stanza old)
makes_backup Full links stanza old command is = ([], is.0, is.1)
makes_backup Diff links stanza old command is = ([], is.0, is.1)
makes_backup Incr links stanza old command is = ([], is.0, is.1)

-- a backup is given with which the repository is sound
sound_by : (kind : BackupKind) (links : List LinkState) (stanza : Text) (b : Backup) (old new : Option Content) → AddsBackup stanza b old new → (command : Command) → IsBackupBy kind links stanza old command → NowEffect stanza command true old new → StaysSound stanza command old
sound_by Full links stanza b old new adds command is done = known_sound stanza [] b old new adds.adds adds.sound is.0 command is.1 done
sound_by Diff links stanza b old new adds command is done = known_sound stanza [] b old new adds.adds adds.sound is.0 command is.1 done
sound_by Incr links stanza b old new adds command is done = known_sound stanza [] b old new adds.adds adds.sound is.0 command is.1 done

-- the expiry that may follow it changes no less than none
pub change_more : (stanza : Text) (these : Label → Name → Type 0) (expires : Option Rules) (least : ℕ) (a b : View) → TouchesOneOf stanza these a b → MayChange stanza these expires least a b
change_more stanza these None least a b x = x
change_more stanza these (Some rules) least a b (inl still) = inl (expires_still stanza rules least a b still)
change_more stanza these (Some rules) least a b (inr (label, x)) = inr (
  label,
  record { is_label = x.is_label; is_new = x.is_new; both = none_then stanza least TouchesOnly touched_frame (these label) (Some rules) a b x.only },
)

pub change_then : (stanza : Text) (these : Label → Name → Type 0) (rules : Rules) (least : ℕ) (a b c : View) → TouchesOneOf stanza these a b → Expires stanza rules least b c → MayChange stanza these (Some rules) least a c
change_then stanza these rules least a b c (inl still) h = inl (expires_on stanza rules least a b c still h)
change_then stanza these rules least a b c (inr (label, x)) h = inr (
  label,
  record { is_label = x.is_label; is_new = x.is_new; both = both_change stanza least TouchesOnly touched_frame (these label) rules a b c x.only h },
)

offline_facts : (how : BackupHow) → IsFollowable (offline how)
offline_facts how = record {
  makes = λ p old new. makes_backup how.kind (take how.workers old.links) p.stanza old.repo;
  sound = λ p old new repo lines was turns command is done. let t = was.2.2 in sound_by how.kind (take how.workers old.links) p.stanza t.made.backup old.repo repo t.made.adds command is done;
  makes_on = λ p old new repo clock command is. is;
  changes_none = λ expires p least a b x. change_more p.stanza (IsOfBackup p.stanza) expires least a b x;
  changes_then = λ rules p least a b c x h. change_then p.stanza (IsOfBackup p.stanza) rules least a b c x h;
  promise_on = λ p old new repo clock now lines later was. let t = was.2.2 in (was.0, was.1, (was.2.0, was.2.1, taken_later p.stanza was.2.0 was.0 old.nodes (take how.workers old.links) old.repo now old.clock new.clock clock later lines t));
}

-- ---- all of it

ok_as : {E : Type 0} (r : Result Outcome E) (P Q : Text → Type 0) → ((lines : Text) → P lines → Q lines) → IfOk r (λ o. OnFinished o P) → IfOk r (λ o. OnFinished o Q)
ok_as (Ok (Finished lines)) P Q to h = to _ h
ok_as (Ok (Absent name)) P Q to h = absurd h
ok_as (Ok (FindingsFound lines count)) P Q to h = absurd h
ok_as (Err e) P Q to h = tt

module _ {D C : Type 0} (p : Place) (b : World) (state : D → DiskState) (before after : D) (tree : DataFolderState) (of : C → ClockState) (first last : C) (links : List LinkState) (nodes : tree.nodes ≡ b.tree.nodes) (o : OfflineOrder) (known : Control) (shows : IfSome b.tree.nodes (λ f. FolderShows f known)) (made : Result Outcome (Halt OfflineFault)) where
  abbrev repo : DiskState
  repo = state before

  abbrev m : World
  m = record b { repo = state before; tree = tree; clock = of first; links = links }

  abbrev used : List LinkState
  used = take o.take.workers b.links

  cause_of : (failed : Object → Type 0) → ((object : Object) → failed object → Failed b m object) → (h : Halt OfflineFault) → HaltCause (OfflineCause (found_by p.stanza o.take.workers (known_world b) known) o) failed h → HaltCause ((offline (taking_of o)).cause p (known_world b) (known_world m)) (Failed b m) h
  cause_of failed rose (Refused e) why = (o, refl, (known, shows, why))
  cause_of failed rose (HaltFailed object) why = rose object why
  cause_of failed rose HaltMemory why = tt

  closes_any : (h : Halt OfflineFault) → HaltCause ((offline (taking_of o)).closes p (known_world b) (known_world m) (Failed b m)) (λ object. Unit {0}) h
  closes_any (Refused e) = tt
  closes_any (HaltFailed object) = tt
  closes_any HaltMemory = tt

  err_as : (r : Result Outcome (Halt OfflineFault)) (P Q : Halt OfflineFault → Type 0) → ((h : Halt OfflineFault) → P h → Q h) → IfErr r P → IfErr r Q
  err_as (Ok x) P Q to h = tt
  err_as (Err e) P Q to h = to e h

  err_any : (r : Result Outcome (Halt OfflineFault)) (Q : Halt OfflineFault → Type 0) → ((h : Halt OfflineFault) → Q h) → IfErr r Q
  err_any (Ok x) Q all = tt
  err_any (Err e) Q all = all e

  backs_up : StaysBeside p.stanza b.repo.view repo.view → TouchesOne p.stanza b.repo.view repo.view → On (one (IsBackupBy o.kind used p.stanza b.repo.view.now)) (λ command. RepoEffect Whole p.stanza command (reached_by offline_early made) b.repo.view repo.view) →
      IfOk made (λ outcome. OnFinished outcome (IsTaken p.stanza known o b.tree.nodes used b.repo.view.now repo.view.now b.clock (of first))) → (failed : Object → Type 0) → ((object : Object) → failed object → Failed b m object) →
      IfErr made (HaltCause (OfflineCause (found_by p.stanza o.take.workers (known_world b) known) o) failed) → SamePlaces b m → AreLater b m → BacksUp (offline (taking_of o)) p b m made
  backs_up beside changes does taken failed rose cause places later = record {
    steps = λ turns. (
      does.0,
      does.1,
      does_runs Whole p.stanza does.0 (reached_by offline_early made) b.repo.view repo.view b.spool.view (kind_receipts o.kind p.stanza used b.repo.view.now does.0 does.1 b.spool.view) does.2,
    );
    promise = ok_as made _ _ (λ lines h. (o, refl, (known, shows, h))) taken;
    cause = err_as made _ _ (cause_of failed rose) cause;
    closes = err_any made _ closes_any;
    beside = λ turns. beside;
    spool = λ turns. still_beside p.stanza b.spool.view b.spool.view (still_self b.spool.view);
    changes = λ turns. changes;
    nodes = nodes;
    server = refl;
    others = refl;
    places = places;
    later = later;
  }

  pub offline_ran : (how : BackupHow) → taking_of o ≡ how → StaysBeside p.stanza b.repo.view repo.view → TouchesOne p.stanza b.repo.view repo.view → On (one (IsBackupBy o.kind used p.stanza b.repo.view.now)) (λ command. RepoEffect Whole p.stanza command (reached_by offline_early made) b.repo.view repo.view) →
      IfOk made (λ outcome. OnFinished outcome (IsTaken p.stanza known o b.tree.nodes used b.repo.view.now repo.view.now b.clock (of first))) → (failed : Object → Type 0) → ((object : Object) → failed object → Failed b m object) →
      IfErr made (HaltCause (OfflineCause (found_by p.stanza o.take.workers (known_world b) known) o) failed) → SamePlaces b m → AreLater b m → b.clock.least ≤ (of first).least →
      (state after).opened ≡ (state before).opened → (state before).faults ≤ (state after).faults → (of first).faults ≤ (of last).faults →
      (expires : Option Rules) (r : Result Outcome (Halt (BackupCommandFault OfflineFault))) → FollowsBackup p.stanza expires made state before after of first last r →
      PartEffect p (backup_offline_meaning how expires) b (record m { repo = state after; clock = of last }) (own_of r)
  offline_ran how is beside changes does taken failed rose cause places later le opened repo_later clock_later expires r follows =
      subst (λ (x : BackupHow). PartEffect p (backup_offline_meaning x expires) b (record m { repo = state after; clock = of last }) (own_of r)) is
      (backed_ran (offline (taking_of o)) (offline_facts (taking_of o)) p b m state before after of first last le opened repo_later clock_later expires made (backs_up beside changes does taken failed rose cause places later) r follows)
