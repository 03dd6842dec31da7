-- A backup of either kind, with the expiry that may follow it, in terms of all objects.
use Rattle.std.proofs.Common.{◌≡◌, ℕ, Bool, true, false, Option, Some, None, Result, Ok, Err, IfOk, IfErr, refl, sym, subst, ◌∙◌, arith}
use Rattle.std.specs.Prelude.{◌≤◌, String, string_bytes}
use Rattle.std.specs.declared.alloc.Global.{Global}
use Rattle.base_devices.specs.Content.{Content}
use Rattle.base_devices.specs.Moments.{View}
use Rattle.base_devices.specs.States.{ClockState, DiskState}
use Rattle.base_model.specs.Now.{NowEffect}
use Rattle.base_model.specs.Steps.{Command, Expire}
use Rattle.base_model.specs.Text.{Text}
use Rattle.base_crash_lists.specs.Beside.{StaysBeside}
use Rattle.base_crash_lists.proofs.Stays.{beside_on}
use Rattle.cmd_types.specs.declared.stages.object.Object.{Object}
use Rattle.cmd_types.specs.declared.stages.object.Object.TheVariants.{Repo, Clock as TheClock}
use Rattle.cmd_types.specs.declared.stages.halt.Halt.{Halt}
use Rattle.cmd_types.specs.declared.stages.halt.Halt.TheVariants.{Refused, Failed as HaltFailed, NoMemory as HaltMemory}
use Rattle.cmd_types.specs.declared.stages.outcome.Outcome.{Outcome}
use Rattle.cmd_types.specs.declared.stages.outcome.Outcome.TheVariants.{Finished, Absent, FindingsFound}
use Rattle.cmd_types.specs.declared.stages.plan.SyncScope.TheVariants.{Whole}
use Rattle.cmd_types.specs.Halts.{HaltCause}
use Rattle.cmd_types.specs.Reached.{OnFinished, back_if, fails_early, reached_by}
use Rattle.cmd_types.specs.DisksEffect.{Reached, to_end, turned_back, stopped, On, OnAll, DoesWhole, DisksEffect}
use Rattle.cmd_types.specs.World.{World, Failed, AreLater}
use Rattle.cmd_types.proofs.Counts.{rises_from}
use Rattle.expire_rules.specs.declared.rules.Rules.{Rules}
use Rattle.expire_make.specs.Expiry.{retention}
use Rattle.cmd_expire.specs.FollowUp.{StaysSound}
use Rattle.expire_make.proofs.Touching.{touches_now}
use Rattle.cmd_expire.specs.Pruning.{IsMomentIn}
use Rattle.cmd_expire.proofs.Moments.{moment_from, moment_within}
use Rattle.cmd_expire.specs.Changing.{Expires}
use Rattle.cmd_trait.specs.declared.fault.Fault.{Fault}
use Rattle.cmd_trait.specs.KnownWorld.{KnownWorld, known_world}
use Rattle.cmd_trait.specs.Meaning.{Place, Meaning, TurnsKnownIf, Unless}
use Rattle.cmd_trait.specs.Ends.{ending_of, reached_of}
use Rattle.cmd_trait.specs.Faults.{of_own, own_of}
use Rattle.cmd_trait.specs.CallEffect.{PartEffect, SamePlaces, Spares, StaysHealed, Closes}
use Rattle.cmd_trait.proofs.Ends.{all_later}
use Rattle.cmd_trait.proofs.CallEffects.{all_none, later_on}
use Rattle.cmd_trait.proofs.PartEffects.{ran_of, all_on, any_some}
use Rattle.run_backup.specs.declared.fault.BackupCommandFault.{BackupCommandFault}
use Rattle.run_backup.specs.declared.fault.BackupCommandFault.TheVariants.{Backup, FollowUp}
use Rattle.run_backup.specs.Faults.{of_made, backup_early}
use Rattle.run_backup.specs.Following.{BackupMeaning, IsBackedUp, WithExpiry, AfterIt, CommandCause, manner_by, backup_meaning}
use Rattle.run_backup.specs.Followed.{Followed, FollowsBackup, EndsAs}
use Rattle.run_backup.specs.Lawful.{more_after}
use Rattle.run_backup.proofs.Followings.{MakesBackup, stopped_steps, followed_steps, unfollowed}

-- ---- what is needed of a kind of backup

pub record IsFollowable {F : Type 0} (M : BackupMeaning F) : Type 1 where
  -- it makes a backup, and has no expiry
  pub makes : (p : Place) (old new : KnownWorld) → MakesBackup (M.makes p old new)
  -- the repository is sound with the backup
  pub sound : (p : Place) (old new : KnownWorld) (repo : Option Content) (lines : Text) → M.promise p old new repo lines → TurnsKnownIf M.running p.stanza new
      → (command : Command) → M.makes p old new command → NowEffect p.stanza command true old.repo repo → StaysSound p.stanza command old.repo
  -- it changes no more without an expiry than with one, and with one what that may change too
  pub changes_none : (expires : Option Rules) (p : Place) (least : ℕ) (a b : View) → M.changes None p least a b → M.changes expires p least a b
  pub changes_then : (rules : Rules) (p : Place) (least : ℕ) (a b c : View) → M.changes None p least a b → Expires p.stanza rules least b c → M.changes (Some rules) p least a c
  -- what comes after it in the repository and the clock doesn't matter, as long as the clock doesn't go back
  pub makes_on : (p : Place) (old new : KnownWorld) (repo : Option Content) (clock : ClockState) (command : Command) → M.makes p old new command → M.makes p old (record new { repo = repo; clock = clock }) command
  pub promise_on : (p : Place) (old new : KnownWorld) (repo : Option Content) (clock : ClockState) (now : Option Content) (lines : Text) → new.clock.least ≤ clock.least → M.promise p old new now lines → M.promise p old (record new { repo = repo; clock = clock }) now lines

-- what a backup did, without the expiry that may follow it
pub record BacksUp {F : Type 0} (M : BackupMeaning F) (p : Place) (b k : World) (made : Result Outcome (Halt F)) : Type 0 where
  pub steps : TurnsKnownIf M.running p.stanza (known_world k) → (command : Command) × M.makes p (known_world b) (known_world k) command × DisksEffect Whole p.stanza command (reached_by (λ (e : F). true) made) b.repo.view b.spool.view k.repo.view k.spool.view
  pub promise : IfOk made (IsBackedUp M p (known_world b) (known_world k) k.repo.view.now)
  pub cause : IfErr made (HaltCause (M.cause p (known_world b) (known_world k)) (Failed b k))
  pub closes : IfErr made (HaltCause (M.closes p (known_world b) (known_world k) (Failed b k)) (λ object. Unit {0}))
  pub beside : TurnsKnownIf M.running p.stanza (known_world k) → StaysBeside p.stanza b.repo.view k.repo.view
  pub spool : TurnsKnownIf M.running p.stanza (known_world k) → StaysBeside p.stanza b.spool.view k.spool.view
  pub changes : TurnsKnownIf M.running p.stanza (known_world k) → M.changes None p b.clock.least b.repo.view k.repo.view
  pub nodes : k.tree.nodes ≡ b.tree.nodes
  pub server : Unless M.running (k.server ≡ b.server)
  pub others : M.others_effect p b.others k.others
  pub places : SamePlaces b k
  pub later : AreLater b k

-- ---- which command it is

to_manner : (running : Bool) (stanza : Text) (new : KnownWorld) (Is P : Command → Type 0) → (TurnsKnownIf running stanza new → (command : Command) × Is command × P command) → On (manner_by running stanza new Is) P
to_manner true stanza new Is P h = h
to_manner false stanza new Is P h = h tt

back_not : (early : Bool) → ¬ (back_if early ≡ to_end)
back_not true at = let e : turned_back ≡ to_end = at in cc
back_not false at = let e : stopped ≡ to_end = at in cc

-- no expiry follows: there are no rules, or the backup didn't end with lines
abbrev pub NoneFollows : {F : Type 0} → Option Rules → Result Outcome (Halt F) → Type 0
NoneFollows None made = Unit {0}
NoneFollows (Some rules) (Ok (Finished lines)) = ⊥
NoneFollows (Some rules) other = Unit {0}

module _ {F : Type 0} (stanza : Text) (least last : ℕ) (Is : Command → Type 0) (makes : MakesBackup Is) (a s m t : View) where
  none_steps : (expires : Option Rules) (made : Result Outcome (Halt F)) (Was : Text → Type 0) → NoneFollows expires made → IfOk made (λ o. OnFinished o Was)
      → ((command : Command) × Is command × DisksEffect Whole stanza command (reached_by (λ (e : F). true) made) a s m t)
      → (command : Command) × WithExpiry expires least last Is command × DisksEffect Whole stanza command (reached_by (λ (e : F). true) made) a s m t
  none_steps None made Was none ok steps = unfollowed least last steps
  none_steps (Some rules) (Ok (Finished lines)) Was none ok steps = absurd none
  none_steps (Some rules) (Ok (Absent name)) Was none ok steps = absurd ok
  none_steps (Some rules) (Ok (FindingsFound lines count)) Was none ok steps = absurd ok
  none_steps (Some rules) (Err (Refused e)) Was none ok steps = stopped_steps stanza rules least last Is makes a s m t turned_back (back_not true) (unfollowed least last steps)
  none_steps (Some rules) (Err (HaltFailed object)) Was none ok steps = stopped_steps stanza rules least last Is makes a s m t (back_if (fails_early object)) (back_not (fails_early object)) (unfollowed least last steps)
  none_steps (Some rules) (Err HaltMemory) Was none ok steps = stopped_steps stanza rules least last Is makes a s m t stopped (back_not false) (unfollowed least last steps)

none_promise : {F : Type 0} (stanza : Text) (least : ℕ) (new : KnownWorld) (expires : Option Rules) (made : Result Outcome (Halt F)) (Was : Option Content → Text → Type 0) → NoneFollows expires made
    → IfOk made (λ o. OnFinished o (Was new.repo)) → IfOk made (AfterIt expires stanza least (λ repo o. OnFinished o (Was repo)) new)
none_promise stanza least new None made Was none ok = ok
none_promise stanza least new (Some rules) (Ok (Finished lines)) Was none ok = absurd none
none_promise stanza least new (Some rules) (Ok (Absent name)) Was none ok = absurd ok
none_promise stanza least new (Some rules) (Ok (FindingsFound lines count)) Was none ok = absurd ok
none_promise stanza least new (Some rules) (Err h) Was none ok = tt

-- ---- how the command ends by its backup

made_reached : {F : Type 0} (made : Result Outcome (Halt F)) → reached_by backup_early (of_made made) ≡ reached_by (λ (e : F). true) made
made_reached (Ok (Finished lines)) = refl
made_reached (Ok (Absent name)) = refl
made_reached (Ok (FindingsFound lines count)) = refl
made_reached (Err (Refused e)) = refl
made_reached (Err (HaltFailed object)) = refl
made_reached (Err HaltMemory) = refl

made_ok : {F : Type 0} (P : Outcome → Type 0) (made : Result Outcome (Halt F)) → IfOk made P → IfOk (of_made made) P
made_ok P (Ok o) h = h
made_ok P (Err e) h = tt

module _ {F : Type 0} (M : BackupMeaning F) (p : Place) (expires : Option Rules) (b k : World) where
  made_cause : (made : Result Outcome (Halt F)) → IfErr made (HaltCause (M.cause p (known_world b) (known_world k)) (Failed b k))
      → IfErr (of_made made) (HaltCause (CommandCause M expires p (known_world b) (known_world k) (Failed b k)) (Failed b k))
  made_cause (Ok o) h = tt
  made_cause (Err (Refused e)) h = h
  made_cause (Err (HaltFailed object)) h = h
  made_cause (Err HaltMemory) h = tt

  made_closes : (made : Result Outcome (Halt F)) → IfErr made (HaltCause (M.closes p (known_world b) (known_world k) (Failed b k)) (λ object. Unit {0}))
      → IfErr (own_of (of_made made)) (Closes p (backup_meaning M expires) b k)
  made_closes (Ok o) h = tt
  made_closes (Err (Refused e)) h = h
  made_closes (Err (HaltFailed object)) h = tt
  made_closes (Err HaltMemory) h = tt

-- ---- none follows

module _ {F : Type 0} (M : BackupMeaning F) (facts : IsFollowable M) (p : Place) (expires : Option Rules) (b k : World) (made : Result Outcome (Halt F)) (none : NoneFollows expires made) (h : BacksUp M p b k made) where
  abbrev means : Meaning (BackupCommandFault F)
  means = backup_meaning M expires

  abbrev Steps : Reached → Type 0
  Steps reached = On (means.manner p (known_world b) (known_world k)) (λ command. DisksEffect Whole p.stanza command reached b.repo.view b.spool.view k.repo.view k.spool.view)

  none_there : Steps (reached_by (λ (e : F). true) made)
  none_there = to_manner M.running p.stanza (known_world k) (WithExpiry expires b.clock.least k.clock.least (M.makes p (known_world b) (known_world k))) _
      (λ turns. none_steps p.stanza b.clock.least k.clock.least (M.makes p (known_world b) (known_world k)) (facts.makes p (known_world b) (known_world k)) b.repo.view b.spool.view k.repo.view k.spool.view expires made
      (M.promise p (known_world b) (known_world k) k.repo.view.now) none h.promise (h.steps turns))

  none_ran : PartEffect p means b k (own_of (of_made made))
  none_ran = ran_of p means b k (Failed b k) (λ object rose. rose) (CommandCause M expires p (known_world b) (known_world k) (Failed b k)) (λ e why. why) refl tt (of_made made) tt
      (subst Steps (sym (made_reached made)) none_there)
      (made_ok (means.promise p (known_world b) (known_world k)) made (none_promise p.stanza b.clock.least (known_world k) expires made (M.promise p (known_world b) (known_world k)) none h.promise))
      tt
      tt
      (made_cause M p expires b k made h.cause)
      (all_on (of_made made) (StaysHealed p means b k) (record { agree = λ some x. any_some k.repo.view.now; lasts = λ synced some x. tt }))
      (record {
        beside = h.beside;
        spool = h.spool;
        repository = λ turns. facts.changes_none expires p b.clock.least b.repo.view k.repo.view (h.changes turns);
        folder = h.nodes;
        others = h.others;
        turned = all_none (reached_of means (ending_of (own_of (of_made made)))) _ h.nodes;
        server = h.server;
        workers = tt;
        clock = tt;
        closed = made_closes M p expires b k made h.closes;
      })
      h.places h.later

-- ---- an expiry follows

module _ {F : Type 0} (M : BackupMeaning F) (facts : IsFollowable M) (p : Place) (rules : Rules) (b m : World) (repo : DiskState) (clock : ClockState) (le : b.clock.least ≤ m.clock.least) (lines : String Global) (h : BacksUp M p b m (Ok (Finished lines)))
    (opened : repo.opened ≡ m.repo.opened) (repo_later : m.repo.faults ≤ repo.faults) (clock_later : m.clock.faults ≤ clock.faults) where
  abbrev k : World
  k = record m { repo = repo; clock = clock }

  abbrev both : Meaning (BackupCommandFault F)
  both = backup_meaning M (Some rules)

  abbrev Is : Command → Type 0
  Is = M.makes p (known_world b) (known_world k)

  -- as the expiry began
  was : m.clock.least ≤ clock.least → M.promise p (known_world b) (known_world k) m.repo.view.now (string_bytes lines)
  was later = facts.promise_on p (known_world b) (known_world m) repo.view.now clock m.repo.view.now (string_bytes lines) later h.promise

  there : TurnsKnownIf M.running p.stanza (known_world k) → TurnsKnownIf M.running p.stanza (known_world m)
  there = turns_same M.running
    where
      turns_same : (running : Bool) → TurnsKnownIf running p.stanza (known_world k) → TurnsKnownIf running p.stanza (known_world m)
      turns_same true turns = turns
      turns_same false turns = tt

  made_is : TurnsKnownIf M.running p.stanza (known_world k) → (command : Command) × WithExpiry None b.clock.least k.clock.least Is command × DisksEffect Whole p.stanza command to_end b.repo.view b.spool.view m.repo.view m.spool.view
  made_is turns =
      let x = h.steps (there turns) in
      unfollowed b.clock.least k.clock.least (x.0, facts.makes_on p (known_world b) (known_world m) repo.view.now clock x.0 x.1, x.2)

  places_on : SamePlaces b k
  places_on = record { spool = h.places.spool; repo = opened ∙ h.places.repo; tree = h.places.tree }

  later_from : AreLater m k
  later_from = all_later m k repo_later (omega arith) (omega arith) (omega arith) (omega arith) clock_later (omega arith) (omega arith) (omega arith)

  rose_all : (object : Object) → Failed m k object → Failed b k object
  rose_all object rose = rises_from _ _ _ (h.later object) rose

  both_spares : StaysBeside p.stanza m.repo.view repo.view → Expires p.stanza rules b.clock.least m.repo.view repo.view → (r : Result Outcome (Fault (BackupCommandFault F))) → IfErr r (Closes p both b k) → Spares p both b k r
  both_spares beside expires r closed = record {
    beside = λ turns. beside_on p.stanza b.repo.view m.repo.view repo.view (h.beside (there turns)) beside;
    spool = λ turns. h.spool (there turns);
    repository = λ turns. facts.changes_then rules p b.clock.least b.repo.view m.repo.view repo.view (h.changes (there turns)) expires;
    folder = h.nodes;
    others = h.others;
    turned = all_none (reached_of both (ending_of r)) _ h.nodes;
    server = h.server;
    workers = tt;
    clock = tt;
    closed = closed;
  }

  module _ (r : Result Outcome (Halt (BackupCommandFault F))) (f : Followed p.stanza rules (string_bytes lines) m.repo repo m.clock clock r) where
    -- none before the least second that the clock might show at first
    from_first : IsMomentIn rules.full b.clock.least clock.least f.moment
    from_first = moment_within rules.full b.clock.least m.clock.least clock.least f.moment le f.later f.may_be

    -- what it changes
    may_change : Expires p.stanza rules b.clock.least m.repo.view repo.view
    may_change = record { only = f.only; moment = f.moment; may_be = moment_from rules.full b.clock.least clock.least f.moment from_first; touches = f.touches }

    both_steps : (reached : Reached) → ¬ (reached ≡ turned_back) → OnAll reached (DoesWhole Whole p.stanza (Expire (retention rules f.moment)) m.repo.view repo.view)
        → On (both.manner p (known_world b) (known_world k)) (λ command. DisksEffect Whole p.stanza command reached b.repo.view b.spool.view repo.view m.spool.view)
    both_steps reached not all = to_manner M.running p.stanza (known_world k) (WithExpiry (Some rules) b.clock.least clock.least Is) _
        (λ turns. followed_steps p.stanza rules b.clock.least clock.least Is (facts.makes p (known_world b) (known_world k)) b.repo.view b.spool.view m.repo.view m.spool.view repo.view f.moment from_first reached not
        (λ command is done. facts.sound p (known_world b) (known_world k) m.repo.view.now (string_bytes lines) (was f.later) turns command is done) f.part all (made_is turns))

  followed_ran : (r : Result Outcome (Halt (BackupCommandFault F))) → Followed p.stanza rules (string_bytes lines) m.repo repo m.clock clock r → PartEffect p both b k (own_of r)
  followed_ran (Ok (Finished more)) f = record {
    steps = both_steps (Ok (Finished more)) f to_end (λ (at : to_end ≡ turned_back). cc) f.whole;
    promise = record { repo = m.repo.view.now; lines = lines; was = was f.later; moment = f.moment; may_be = from_first (Ok (Finished more)) f; known = f.known; adds = f.adds };
    lasts = tt;
    synced = tt;
    folder_synced = tt;
    acknowledges = tt;
    cause = tt;
    healed = record { agree = λ some x. any_some repo.view.now; lasts = λ synced some x. tt };
    spares = both_spares f.beside (may_change (Ok (Finished more)) f) (Ok (Finished more)) tt;
    places = places_on;
    later = later_on b m k h.later later_from;
  }
  followed_ran (Ok (Absent name)) f = absurd f.adds
  followed_ran (Ok (FindingsFound more count)) f = absurd f.adds
  followed_ran (Err (Refused (FollowUp known fault))) f = record {
    steps = both_steps (Err (Refused (FollowUp known fault))) f stopped (λ (at : stopped ≡ turned_back). cc) tt;
    promise = tt;
    lasts = tt;
    synced = tt;
    folder_synced = tt;
    acknowledges = tt;
    cause = (
      m.repo.view.now,
      subst (M.promise p (known_world b) (known_world k) m.repo.view.now) (sym f.cause.0) (was f.later),
      more_after p.stanza m.repo.view.now (rose_all Repo) (rose_all TheClock) fault f.cause.1,
      (f.moment, from_first (Err (Refused (FollowUp known fault))) f, touches_now p.stanza rules f.moment m.repo.view repo.view f.touches),
    );
    healed = tt;
    spares = both_spares f.beside (may_change (Err (Refused (FollowUp known fault))) f) (Err (of_own (Refused (FollowUp known fault)))) tt;
    places = places_on;
    later = later_on b m k h.later later_from;
  }
  followed_ran (Err (Refused (Backup e))) f = absurd f.cause
  followed_ran (Err (HaltFailed object)) f = absurd f.cause
  followed_ran (Err HaltMemory) f = absurd f.cause

-- ---- whether one follows or not

module _ {F D C : Type 0} (M : BackupMeaning F) (facts : IsFollowable M) (p : Place) (b n : World) (state : D → DiskState) (before after : D) (of : C → ClockState) (first last : C) (le : b.clock.least ≤ (of first).least)
    (opened : (state after).opened ≡ (state before).opened) (repo_later : (state before).faults ≤ (state after).faults) (clock_later : (of first).faults ≤ (of last).faults) where
  abbrev pub made_at : World
  made_at = record n { repo = state before; clock = of first }

  abbrev pub ended_at : World
  ended_at = record n { repo = state after; clock = of last }

  as_made : (expires : Option Rules) (made : Result Outcome (Halt F)) → NoneFollows expires made → BacksUp M p b made_at made → (r : Result Outcome (Halt (BackupCommandFault F)))
      → EndsAs made before after first last r → PartEffect p (backup_meaning M expires) b ended_at (own_of r)
  as_made expires made none h r f =
      subst (λ (x : Result Outcome (Halt (BackupCommandFault F))). PartEffect p (backup_meaning M expires) b ended_at (own_of x)) (sym f.is)
      (subst (λ (x : D). PartEffect p (backup_meaning M expires) b (record n { repo = state x; clock = of last }) (own_of (of_made made))) (sym f.repo_same)
      (subst (λ (x : C). PartEffect p (backup_meaning M expires) b (record n { repo = state before; clock = of x }) (own_of (of_made made))) (sym f.clock_same)
      (none_ran M facts p expires b made_at made none h)))

  pub backed_ran : (expires : Option Rules) (made : Result Outcome (Halt F)) → BacksUp M p b made_at made → (r : Result Outcome (Halt (BackupCommandFault F)))
      → FollowsBackup p.stanza expires made state before after of first last r → PartEffect p (backup_meaning M expires) b ended_at (own_of r)
  backed_ran None made h r f = as_made None made tt h r f
  backed_ran (Some rules) (Ok (Finished lines)) h r f = followed_ran M facts p rules b made_at (state after) (of last) le lines h opened repo_later clock_later r f
  backed_ran (Some rules) (Ok (Absent name)) h r f = as_made (Some rules) (Ok (Absent name)) tt h r f
  backed_ran (Some rules) (Ok (FindingsFound lines count)) h r f = as_made (Some rules) (Ok (FindingsFound lines count)) tt h r f
  backed_ran (Some rules) (Err e) h r f = as_made (Some rules) (Err e) tt h r f
