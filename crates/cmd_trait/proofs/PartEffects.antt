-- What a command's own part did, known of all objects: lemmas for the commands' crates.
use Rattle.std.proofs.Common.{◌≡◌, ◌≢◌, ◌≤◌, ◌⊎◌, ℕ, Bool, true, ◌∙◌, Result, Ok, Err, IfOk, IfErr, Option, Some, None, refl, sym, ap, subst}
use Rattle.std.specs.Prelude.{OnOk, IfSome, IsSome}
use Rattle.base_devices.specs.Content.{Content}
use Rattle.base_devices.specs.Moments.{View}
use Rattle.base_devices.specs.DataFolder.{Nodes}
use Rattle.base_devices.specs.States.{AllSynced}
use Rattle.base_model.specs.Text.{Text}
use Rattle.base_model.proofs.Walking.{rests_synced}
use Rattle.base_model.specs.Steps.{Command, Reading}
use Rattle.archive_lookup.specs.Turns.{ProcessesState}
use Rattle.archive_store.specs.Still.{IsStill, still_self}
use Rattle.base_crash_lists.specs.Beside.{StaysBeside}
use Rattle.cmd_setup.specs.Calls.{StaysSynced}
use Rattle.cmd_setup.proofs.Readings.{still_leaves}
use Rattle.cmd_types.specs.declared.stages.object.Object.{Object}
use Rattle.cmd_types.specs.declared.stages.outcome.Outcome.{Outcome}
use Rattle.cmd_types.specs.declared.stages.halt.Halt.{Halt}
use Rattle.cmd_types.specs.declared.stages.halt.Halt.TheVariants.{Refused, Failed as HaltFailed, NoMemory as HaltMemory}
use Rattle.cmd_types.specs.declared.stages.plan.SyncScope.{SyncScope}
use Rattle.cmd_types.specs.declared.stages.plan.SyncScope.TheVariants.{Whole}
use Rattle.cmd_types.specs.Halts.{HaltCause}
use Rattle.cmd_types.specs.Plans.{OnReading}
use Rattle.cmd_types.specs.Reached.{reached_by}
use Rattle.cmd_types.specs.DisksEffect.{Reached, DisksEffect, On, OnNone}
use Rattle.cmd_types.specs.World.{World, Failed, AreLater}
use Rattle.cmd_types.proofs.Besides.{still_beside}
use Rattle.cmd_types.proofs.Doing.{reading_does}
use Rattle.cmd_types.proofs.Lifted.{does_runs, reading_spool}
use Rattle.cmd_trait.specs.declared.fault.Fault.{Fault}
use Rattle.cmd_trait.specs.KnownWorld.{KnownWorld, known_world}
use Rattle.cmd_trait.specs.Meaning.{Place, Meaning, IsLawful, Unless, disks_of}
use Rattle.cmd_trait.specs.Readers.{reader_meaning, reader_lawful}
use Rattle.cmd_trait.specs.Ends.{status, reached_of, ending_of}
use Rattle.cmd_trait.specs.Faults.{of_own, own_of}
use Rattle.cmd_trait.specs.CallEffect.{PartEffect, OwnSteps, OwnLasts, OwnCause, OnLasting, StaysHealed, Spares, Closes, SamePlaces}
use Rattle.cmd_trait.proofs.Ends.{reached_same, own_ok, own_on, own_err}
use Rattle.cmd_trait.proofs.CallEffects.{any_reading, any_unless, unless_as, all_none, lasting_as}

pub both_ok : {E : Type 0} (r : Result Outcome E) (P Q : Outcome → Type 0) → IfOk r P → IfOk r Q → IfOk r (λ o. P o × Q o)
both_ok (Ok o) P Q p q = (p, q)
both_ok (Err e) P Q p q = tt

pub any_ok : {E : Type 0} (r : Result Outcome E) (P : Outcome → Type 0) → ((o : Outcome) → P o) → IfOk r P
any_ok (Ok o) P p = p o
any_ok (Err e) P p = tt

pub all_on : {E : Type 0} (r : Result Outcome E) (P : Type 0) → P → OnOk r P
all_on (Ok o) P p = p
all_on (Err e) P p = tt

pub any_err : {T E : Type 0} (r : Result T E) (P : E → Type 0) → ((e : E) → P e) → IfErr r P
any_err (Ok x) P p = tt
any_err (Err e) P p = p e

pub any_some : (o : Option Content) → IfSome o (λ _. Unit {0})
any_some None = tt
any_some (Some f) = tt

-- a spool that wasn't used keeps to any stanza
pub spool_kept : (stanza : Text) (b k : World) → k.spool.view ≡ b.spool.view → StaysBeside stanza b.spool.view k.spool.view
spool_kept stanza b k same = subst (λ (v : View). StaysBeside stanza b.spool.view v) (sym same) (still_beside stanza b.spool.view b.spool.view (still_self b.spool.view))

pub reading_runs : (how : SyncScope) (stanza : Text) (command : Command) (reached : Reached) (b k : World) → command ≡ Reading → IsStill b.repo.view k.repo.view → k.spool.view ≡ b.spool.view → DisksEffect how stanza command reached b.repo.view b.spool.view k.repo.view k.spool.view
reading_runs how stanza command reached b k is still spool = subst (λ (c : Command). DisksEffect how stanza c reached b.repo.view b.spool.view k.repo.view k.spool.view) (sym is) (subst (λ (v : View). DisksEffect how stanza Reading reached b.repo.view b.spool.view k.repo.view v) (sym spool)
    (does_runs how stanza Reading reached b.repo.view k.repo.view b.spool.view (λ q log keeps. reading_spool stanza q log b.spool.view keeps) (reading_does how stanza reached b.repo.view k.repo.view still.time still.now)))

module _ {F : Type 0} (p : Place) (m : Meaning F) (b k : World) (failed : Object → Type 0) (rose : (object : Object) → failed object → Failed b k object) (why : F → Type 0) (each : (e : F) → why e → m.cause p (known_world b) (known_world k) (Failed b k) e) where
  own : (h : Halt F) → HaltCause why failed h → OwnCause p m b k (of_own h)
  own (Refused e) h = each e h
  own (HaltFailed object) h = rose object h
  own HaltMemory h = tt

  -- what a command's own part did, whichever it is
  pub ran_of : m.staged ≡ true → m.acknowledges p (disks_of b) (disks_of k) → (r : Result Outcome (Halt F)) → Unless m.folder_unsynced (OnOk r (AllSynced k.tree)) → On (m.manner p (known_world b) (known_world k)) (λ command. DisksEffect m.plan.sync_scope p.stanza command (reached_by m.early r) b.repo.view b.spool.view k.repo.view k.spool.view) → IfOk r (m.promise p (known_world b) (known_world k)) →
      OnLasting m.plan.sync_scope m.plan.pairs (IfOk r (OwnLasts p m b k)) → Unless m.unsyncs (StaysSynced p.stanza b.repo.view k.repo.view) → IfErr r (HaltCause why failed) → OnOk r (StaysHealed p m b k) → Spares p m b k (own_of r) → SamePlaces b k → AreLater b k → PartEffect p m b k (own_of r)
  ran_of staged acknowledges r folder steps promise lasts synced cause healed spares places later = record {
    steps = subst (λ (s : Bool). On (m.manner p (known_world b) (known_world k)) (λ command. OwnSteps s m.plan.sync_scope p.stanza command (reached_of m (ending_of (own_of r))) b.repo.view b.spool.view k.repo.view k.spool.view)) (sym staged)
        (subst (λ (reached : Reached). On (m.manner p (known_world b) (known_world k)) (λ command. DisksEffect m.plan.sync_scope p.stanza command reached b.repo.view b.spool.view k.repo.view k.spool.view)) (sym (reached_same m r)) steps);
    promise = own_ok (m.promise p (known_world b) (known_world k)) r promise;
    lasts = lasting_as m.plan.sync_scope m.plan.pairs _ _ (λ h. own_ok (OwnLasts p m b k) r h) lasts;
    synced = synced;
    folder_synced = unless_as m.folder_unsynced _ _ (own_on _ r) folder;
    acknowledges = own_on _ r (all_on r _ acknowledges);
    cause = own_err (HaltCause why failed) (OwnCause p m b k) own r cause;
    healed = own_on _ r healed;
    spares = spares;
    places = places;
    later = later;
  }

-- ---- a command that changes nothing

module _ {F : Type 0} (p : Place) (m : Meaning F) (laws : IsLawful m) (b k : World) (rest : k ≡ record b { repo = k.repo }) (still : IsStill b.repo.view k.repo.view) where
  still_spares : (r : Result Outcome (Fault F)) → IfErr r (Closes p m b k) → Spares p m b k r
  still_spares r closed = record {
    beside = λ known. still_beside p.stanza b.repo.view k.repo.view still;
    spool = λ known. spool_kept p.stanza b k (ap (λ (s : World). s.spool.view) rest);
    repository = λ known. laws.repo_none p b.clock.least b.repo.view k.repo.view (still_leaves m.plan.pairs p.stanza _ _ still);
    folder = subst (λ (n : Option Nodes). m.folder_effect p (known_world b) n) (sym (ap (λ (s : World). s.tree.nodes) rest)) (laws.folder_none p (known_world b));
    others = subst (λ (o : ProcessesState). m.others_effect p b.others o) (sym (ap (λ (s : World). s.others) rest)) (laws.others_none p b.others);
    turned = all_none (reached_of m (ending_of r)) _ (laws.turned_none p (known_world b) (known_world k) (status m (ending_of r)) (ap (λ (s : World). s.tree.nodes) rest) (any_reading m.plan.pairs _ still.now));
    server = any_unless m.uses.server _ (ap (λ (s : World). s.server) rest);
    workers = any_unless m.uses.workers _ (ap (λ (s : World). s.links) rest);
    clock = any_unless m.uses.clock _ (ap (λ (s : World). s.clock) rest);
    closed = closed;
  }

-- ---- a command that only reads the repository

module _ {F : Type 0} (promise : Place → KnownWorld → Outcome → Type 0) (cause : Place → KnownWorld → F → Type 0) (status : F → ℕ) (message : F → Text) (over : (fault : F) → 2 ≤ status fault) (apart : (fault : F) → status fault ≢ 65) (no_server : (fault : F) → (status fault ≤ 46) ⊎ (52 ≤ status fault)) (p : Place) (b k : World) (rest : k ≡ record b { repo = k.repo }) (still : IsStill b.repo.view k.repo.view) where
  abbrev means : Meaning F
  means = reader_meaning promise cause status message

  closes_none : (h : Halt F) → Unit {0} → Closes p means b k (of_own h)
  closes_none (Refused e) x = tt
  closes_none (HaltFailed object) x = tt
  closes_none HaltMemory x = tt

  pub reader_ran : (r : Result Outcome (Halt F)) → (failed : Object → Type 0) → ((object : Object) → failed object → Failed b k object) → IfOk r (promise p (known_world b)) → IfErr r (HaltCause (cause p (known_world b)) failed) → SamePlaces b k → AreLater b k → PartEffect p means b k (own_of r)
  reader_ran r failed rose known why places later = ran_of p means b k failed rose (cause p (known_world b)) (λ e h. h) refl tt r tt
      (λ command is. reading_runs Whole p.stanza command (reached_by (λ e. true) r) b k is still (ap (λ (s : World). s.spool.view) rest))
      known
      tt
      (λ synced some. rests_synced p.stanza b.repo.view k.repo.view still.time still.now synced)
      why
      (all_on r (StaysHealed p means b k) (record { agree = λ some h. any_some k.repo.view.now; lasts = λ synced some h. tt }))
      (still_spares p means (reader_lawful promise cause status message over apart no_server) b k rest still (own_of r) (own_err (λ h. Unit {0}) (Closes p means b k) closes_none r (any_err r (λ h. Unit {0}) (λ h. tt))))
      places later
