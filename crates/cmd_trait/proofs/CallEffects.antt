-- What the stages add to a command's own part: the same lemmas for every command.
use Rattle.std.proofs.Common.{◌≡◌, ◌≤◌, inl, inr, ℕ, List, [], Option, Result, Ok, Err, IfOk, IfErr, refl, sym, ◌∙◌, subst, ap, arith, Bool, true, false}
use Rattle.std.specs.Prelude.{OnOk, IfSome, IsSome, IsErrAnd, IsTrue, option_map, Some, None}
use Rattle.base_devices.specs.Cause.{Rises}
use Rattle.base_devices.specs.Content.{Content, Name}
use Rattle.base_devices.specs.Moments.{View, LeavesNoMore}
use Rattle.base_devices.specs.Links.{LinkState}
use Rattle.base_devices.specs.States.{IsOpened, OpensOnly, ConnectionState, ClockState}
use Rattle.archive_lookup.specs.Turns.{ProcessesState}
use Rattle.base_devices.specs.DataFolder.{Nodes}
use Rattle.archive_store.specs.Still.{IsStill, rests_none, still_self}
use Rattle.base_model.specs.Text.{Text}
use Rattle.base_model.specs.Steps.{Command}
use Rattle.base_model.specs.Walks.{IsSynced}
use Rattle.base_model.proofs.Walking.{rests_synced}
use Rattle.cmd_types.specs.declared.stages.plan.Pairs.{Pairs}
use Rattle.cmd_types.specs.declared.stages.plan.Pairs.TheVariants.{Unread, ReadArchive, HealArchive, ReadBoth}
use Rattle.cmd_types.specs.declared.stages.plan.Plan.{Plan}
use Rattle.cmd_types.specs.declared.stages.object.Object.{Object}
use Rattle.cmd_types.specs.declared.stages.object.Object.TheVariants.{Locks}
use Rattle.cmd_types.specs.declared.stages.fault.StageFault.{StageFault}
use Rattle.cmd_types.specs.declared.stages.fault.StageFault.TheVariants.{Held}
use Rattle.cmd_types.specs.declared.stages.halt.Halt.{Halt}
use Rattle.cmd_types.specs.declared.stages.halt.Halt.TheVariants.{Refused, Failed as HaltFailed, NoMemory as HaltMemory}
use Rattle.cmd_types.specs.declared.stages.outcome.Outcome.{Outcome}
use Rattle.cmd_types.specs.Halts.{HaltCause, Never, Only}
use Rattle.cmd_types.specs.Plans.{AreHeld, Heals, AreHealed, HealsToLast, OnReading}
use Rattle.cmd_types.specs.Reached.{back_if}
use Rattle.cmd_types.specs.declared.stages.plan.SyncScope.{SyncScope}
use Rattle.cmd_types.specs.declared.stages.plan.SyncScope.TheVariants.{Whole, Looked}
use Rattle.cmd_types.specs.DisksEffect.{Reached, to_end, turned_back, stopped, OnNone, DisksEffect, Takes, Quiet, Begins, Manner, each, one, provided, On, PairAlike}
use Rattle.cmd_types.specs.World.{LocksSeen, World, Failed, AreLater, AreRead}
use Rattle.base_crash_lists.specs.Beside.{StaysBeside}
use Rattle.base_crash_lists.proofs.Stays.{beside_on}
use Rattle.cmd_types.proofs.Besides.{still_beside}
use Rattle.cmd_types.proofs.Counts.{rises_from}
use Rattle.cmd_types.proofs.Lifted.{on_as, still_quiet, rests_quiet, quiet_takes, begun_takes, opened_takes}
use Rattle.cmd_setup.specs.Calls.{LeavesPair, StaysSynced}
use Rattle.cmd_setup.specs.Readies.{IsReady}
use Rattle.cmd_setup.specs.Stages.{FoundCause, StageCause}
use Rattle.cmd_setup.specs.Taking.{HeldCause}
use Rattle.cmd_setup.proofs.HealedPair.{alike_value}
use Rattle.cmd_setup.proofs.Readings.{leaves_reading, still_leaves}
use Rattle.cmd_trait.specs.declared.fault.Fault.{Fault}
use Rattle.cmd_trait.specs.declared.fault.Fault.TheVariants.{Stage, Own, Failed as ObjectFailed, NoMemory}
use Rattle.cmd_trait.specs.KnownWorld.{KnownWorld, known_world}
use Rattle.cmd_trait.specs.Meaning.{Place, Meaning, IsLawful, HasOne, disks_of, places_plan, Unless}
use Rattle.cmd_trait.specs.Ends.{status, reached_of, ending_of, is_early}
use Rattle.cmd_trait.specs.Faults.{of_stage, of_own, own_of}
use Rattle.cmd_trait.specs.CallEffect.{PartEffect, OwnSteps, OwnLasts, LastsAfter, StaysHealed, OnReady, OnLasting, Cause, HealsPairs, CallEffect, OwnCause, Spares, Closes, OpensNamed, IsOpenedNamed}
use Rattle.cmd_trait.proofs.Ends.{all_later, only_rose}

-- ---- of any command

pub later_on : (b m k : World) → AreLater b m → AreLater m k → AreLater b k
later_on b m k p q object = omega (arith, p object, q object)

-- what holds of any command holds of one of its kind
pub any_on : (m : Manner) (P : Command → Type 0) → HasOne m → ((command : Command) → P command) → On m P
any_on (each Is) P some p = λ command is. p command
any_on (one Is) P some p = (some.0, some.1, p some.0)
any_on (provided known Is) P some p = λ there. let x = some there in (x.0, x.1, p x.0)

pub any_reading : (pairs : Pairs) (P : Type 0) → P → OnReading pairs P
any_reading Unread P p = p
any_reading ReadArchive P p = p
any_reading HealArchive P p = tt
any_reading ReadBoth P p = p

pub reading_as : (pairs : Pairs) (P Q : Type 0) → (P → Q) → OnReading pairs P → OnReading pairs Q
reading_as Unread P Q to p = to p
reading_as ReadArchive P Q to p = to p
reading_as HealArchive P Q to p = tt
reading_as ReadBoth P Q to p = to p

pub any_unless : (uses : Bool) (P : Type 0) → P → Unless uses P
any_unless true P p = tt
any_unless false P p = p

pub unless_as : (uses : Bool) (P Q : Type 0) → (P → Q) → Unless uses P → Unless uses Q
unless_as true P Q to p = tt
unless_as false P Q to p = to p

pub lasting_as : (how : SyncScope) (pairs : Pairs) (P Q : Type 0) → (P → Q) → OnLasting how pairs P → OnLasting how pairs Q
lasting_as Looked pairs P Q to h = to h
lasting_as Whole Unread P Q to h = tt
lasting_as Whole ReadArchive P Q to h = tt
lasting_as Whole HealArchive P Q to h = to h
lasting_as Whole ReadBoth P Q to h = tt

-- while only is read no name becomes unsynced
pub still_synced : (stanza : Text) (a b c : View) → IsStill a b → StaysSynced stanza b c → StaysSynced stanza a c
still_synced stanza a b c still stays = λ synced some. stays (rests_synced stanza a b still.time still.now synced) (subst (λ (o : Option Content). IsSome o) (sym still.now) some)

pub none_as : (reached : Reached) (P Q : Type 0) → (P → Q) → OnNone reached P → OnNone reached Q
none_as to_end P Q to h = tt
none_as turned_back P Q to h = to h
none_as stopped P Q to h = tt

pub all_none : (reached : Reached) (P : Type 0) → P → OnNone reached P
all_none to_end P p = tt
all_none turned_back P p = p
all_none stopped P p = tt

abbrev pub as_known : Option Content → Option Content → Option Nodes → ConnectionState → ProcessesState → ClockState → List LinkState → KnownWorld
as_known repo spool nodes server others clock links = record { repo = repo; spool = spool; nodes = nodes; server = server; others = others; clock = clock; links = links }

known_same : (b m : World) → AreRead b m → known_world m ≡ known_world b
known_same b m read =
    ap (λ (o : Option Content). as_known o m.spool.view.now m.tree.nodes m.server m.others m.clock m.links) read.repo.now
    ∙ ap (λ (o : Option Content). as_known b.repo.view.now o m.tree.nodes m.server m.others m.clock m.links) read.spool.now
    ∙ ap (λ (o : Option Nodes). as_known b.repo.view.now b.spool.view.now o m.server m.others m.clock m.links) read.nodes
    ∙ ap (λ (o : ConnectionState). as_known b.repo.view.now b.spool.view.now b.tree.nodes o m.others m.clock m.links) read.server
    ∙ ap (λ (o : ProcessesState). as_known b.repo.view.now b.spool.view.now b.tree.nodes b.server o m.clock m.links) read.others
    ∙ ap (λ (o : ClockState). as_known b.repo.view.now b.spool.view.now b.tree.nodes b.server b.others o m.links) read.clock
    ∙ ap (λ (o : List LinkState). as_known b.repo.view.now b.spool.view.now b.tree.nodes b.server b.others b.clock o) read.links

same_still : (v w : View) → w ≡ v → IsStill v w
same_still v w same = subst (λ (x : View). IsStill v x) (sym same) (still_self v)

abbrev as_locks : Option (List (List ℕ × List ℕ)) → ℕ → ℕ → LocksSeen
as_locks t u v = record { ever_taken = t; refusals = u; faults = v }

-- locks that were taken change nothing that is held
pub locks_read : (b : World) (l : LocksSeen) → b.locks.refusals ≤ l.refusals → b.locks.faults ≤ l.faults → AreRead b (record b { locks = l })
locks_read b l refusals faults = record {
  repo = still_self b.repo.view;
  spool = still_self b.spool.view;
  nodes = refl;
  server = refl;
  others = refl;
  clock = refl;
  links = refl;
  files = refl;
  out = refl;
  refusals = refusals;
  later = locks_later b l faults;
}
  where
    locks_later : (b : World) (l : LocksSeen) → b.locks.faults ≤ l.faults → AreLater b (record b { locks = l })
    locks_later b l faults = all_later b (record b { locks = l }) (omega arith) (omega arith) (omega arith) (omega arith) (omega arith) (omega arith) faults (omega arith) (omega arith)

never : IsTrue false → ⊥
never is = cc

-- what only has its places opened holds no lock, and is handed nothing
pub none_held : (plan : Plan) → plan ≡ places_plan → (stanza : Text) (held : List Name) → held ≡ [] → AreHeld plan stanza held
none_held plan is stanza held none = subst (λ (x : Plan). AreHeld x stanza held) (sym is) none

pub none_ready : (plan : Plan) → plan ≡ places_plan → (stanza : Text) (repo : Option Content) (nodes : Option Nodes) → IsReady plan stanza repo nodes (record { control = None; archive = None; backup = None })
none_ready plan is stanza repo nodes = subst (λ (x : Plan). IsReady x stanza repo nodes (record { control = None; archive = None; backup = None })) (sym is)
    (record { control = λ asked. absurd (never asked); archive = λ asked. absurd (never asked); backup = λ asked. absurd (never asked); fits = λ asked. absurd (never asked) })

-- the spool that is named, where one is
pub names_opened : {X : Type 0} (text : X → Text) (o : Option X) (named : Option Text) (old new : List Text) → option_map text o ≡ named → IfSome o (λ x. IsOpened (text x) old new) → (o ≡ None → new ≡ old) → IsOpenedNamed named old new
names_opened text None named old new is opened none = subst (λ (o : Option Text). IsOpenedNamed o old new) is (none refl)
names_opened text (Some x) named old new is opened none = subst (λ (o : Option Text). IsOpenedNamed o old new) is opened

pub names_open : {X : Type 0} (text : X → Text) (o : Option X) (named : Option Text) (old new : List Text) → option_map text o ≡ named → IfSome o (λ x. OpensOnly (text x) old new) → (o ≡ None → new ≡ old) → OpensNamed named old new
names_open text None named old new is opens none = subst (λ (o : Option Text). OpensNamed o old new) is (none refl)
names_open text (Some x) named old new is opens none = subst (λ (o : Option Text). OpensNamed o old new) is opens

-- what looks at nothing alone says nothing of crashes
pub any_lasting : (how : SyncScope) (pairs : Pairs) (P : Type 0) → P → OnLasting how pairs P
any_lasting Looked pairs P p = p
any_lasting Whole Unread P p = tt
any_lasting Whole ReadArchive P p = tt
any_lasting Whole HealArchive P p = p
any_lasting Whole ReadBoth P p = tt

none_healed : (o : Option Content) → IfSome o (λ _. Unit {0})
none_healed None = tt
none_healed (Some f) = tt

module _ {F : Type 0} where
  pub each_ok : (r : Result Outcome (Fault F)) (P : Outcome → Type 0) → ((outcome : Outcome) → P outcome) → IfOk r P
  each_ok (Ok x) P p = p x
  each_ok (Err e) P p = tt

  pub err_as : (r : Result Outcome (Fault F)) (P Q : Fault F → Type 0) → ((fault : Fault F) → P fault → Q fault) → IfErr r P → IfErr r Q
  err_as (Ok x) P Q to h = tt
  err_as (Err e) P Q to h = to e h

  pub ok_as : (r : Result Outcome (Fault F)) (P Q : Outcome → Type 0) → ((outcome : Outcome) → P outcome → Q outcome) → IfOk r P → IfOk r Q
  ok_as (Ok x) P Q to h = to x h
  ok_as (Err e) P Q to h = tt

  pub on_ok : (r : Result Outcome (Fault F)) (P Q : Type 0) → (P → Q) → OnOk r P → OnOk r Q
  on_ok (Ok x) P Q to h = to h
  on_ok (Err e) P Q to h = tt

  pub all_ok : (r : Result Outcome (Fault F)) (P : Type 0) → P → OnOk r P
  all_ok (Ok x) P p = p
  all_ok (Err e) P p = tt

-- ---- of one command

module _ {F : Type 0} (p : Place) (m : Meaning F) (laws : IsLawful m) where
  abbrev Scope : SyncScope
  Scope = m.plan.sync_scope

  -- ---- what it leaves

  -- what the stages left, by what they did: of the repository all where no pair is healed, and all other objects
  closes_from : (b c k : World) (repo : Option Content) → known_world c ≡ record (known_world b) { repo = repo } → AreLater b c → (fault : Fault F) → Closes p m c k fault → Closes p m b k fault
  closes_from b c k repo same later (Stage fault) h = tt
  closes_from b c k repo same later (Own fault) h = laws.closes_more p (known_world b) (known_world k) repo (Failed c k) (Failed b k) (λ object rose. rises_from _ _ _ (later object) rose) fault
      (subst (λ (o : KnownWorld). m.closes p o (known_world k) (Failed c k) fault) same h)
  closes_from b c k repo same later (ObjectFailed object) h = tt
  closes_from b c k repo same later NoMemory h = tt

  spares_on : (b c k : World) (r : Result Outcome (Fault F)) → StaysBeside p.stanza b.repo.view c.repo.view → IsStill b.spool.view c.spool.view → LeavesPair m.plan.pairs p.stanza b.repo.view c.repo.view → known_world c ≡ record (known_world b) { repo = c.repo.view.now } → AreLater b c → Spares p m c k r → Spares p m b k r
  spares_on b c k r beside spool still same later s = record {
    beside = λ known. beside_on p.stanza b.repo.view c.repo.view k.repo.view beside (s.beside known);
    spool = λ known. beside_on p.stanza b.spool.view c.spool.view k.spool.view (still_beside p.stanza b.spool.view c.spool.view spool) (s.spool known);
    repository = λ known. laws.repo_on p b.clock.least b.repo.view c.repo.view k.repo.view still (subst (λ (x : ClockState). m.repo_effect p x.least c.repo.view k.repo.view) (ap (λ (o : KnownWorld). o.clock) same) (s.repository known));
    folder = laws.folder_on p (known_world b) c.repo.view.now k.tree.nodes now (subst (λ (o : KnownWorld). m.folder_effect p o k.tree.nodes) same s.folder);
    others = subst (λ (x : ProcessesState). m.others_effect p x k.others) (ap (λ (o : KnownWorld). o.others) same) s.others;
    turned = none_as (reached_of m (ending_of r)) _ _ (λ h. laws.turned_on p (known_world b) (known_world k) c.repo.view.now (status m (ending_of r)) now (subst (λ (o : KnownWorld). m.turned p o (known_world k) (status m (ending_of r))) same h)) s.turned;
    server = unless_as m.uses.server _ _ (λ e. e ∙ ap (λ (o : KnownWorld). o.server) same) s.server;
    workers = unless_as m.uses.workers _ _ (λ e. e ∙ ap (λ (o : KnownWorld). o.links) same) s.workers;
    clock = unless_as m.uses.clock _ _ (λ e. e ∙ ap (λ (o : KnownWorld). o.clock) same) s.clock;
    closed = err_as r _ _ (closes_from b c k c.repo.view.now same later) s.closed;
  }
    where
      now : OnReading m.plan.pairs (c.repo.view.now ≡ b.repo.view.now)
      now = reading_as m.plan.pairs _ _ (λ (p : IsStill b.repo.view c.repo.view). p.now) (leaves_reading m.plan.pairs p.stanza b.repo.view c.repo.view still)

  -- a stage ended it
  spares_none : (b k : World) (fault : Fault F) → StaysBeside p.stanza b.repo.view k.repo.view → IsStill b.spool.view k.spool.view → LeavesPair m.plan.pairs p.stanza b.repo.view k.repo.view → k.tree.nodes ≡ b.tree.nodes → k.server ≡ b.server → k.others ≡ b.others → k.links ≡ b.links → k.clock ≡ b.clock → Closes p m b k fault → Spares p m b k (Err fault)
  spares_none b k fault beside spool still nodes server others links clock closes = record {
    beside = λ known. beside;
    spool = λ known. still_beside p.stanza b.spool.view k.spool.view spool;
    repository = λ known. laws.repo_none p b.clock.least b.repo.view k.repo.view still;
    folder = subst (λ (n : Option Nodes). m.folder_effect p (known_world b) n) (sym nodes) (laws.folder_none p (known_world b));
    others = subst (λ (o : ProcessesState). m.others_effect p b.others o) (sym others) (laws.others_none p b.others);
    turned = all_none (reached_of m (ending_of (Err fault))) _ (laws.turned_none p (known_world b) (known_world k) (status m (ending_of (Err fault))) nodes (reading_as m.plan.pairs _ _ (λ (p : IsStill b.repo.view k.repo.view). p.now) (leaves_reading m.plan.pairs p.stanza b.repo.view k.repo.view still)));
    server = any_unless m.uses.server _ server;
    workers = any_unless m.uses.workers _ links;
    clock = any_unless m.uses.clock _ clock;
    closed = closes;
  }

  -- ---- before it only was opened or read

  held_from : (b c k : World) → b.locks.refusals ≤ c.locks.refusals → (fault : StageFault) → HeldCause m.plan p.stanza (Rises c.locks.refusals k.locks.refusals) fault → HeldCause m.plan p.stanza (Rises b.locks.refusals k.locks.refusals) fault
  held_from b c k le (Held name) h = (h.0, rises_from b.locks.refusals c.locks.refusals k.locks.refusals le h.1)
  held_from b c k le (other) h = absurd h

  -- a refusal of a stage has its cause from before it too
  stage_from : (b c k : World) → AreRead b c → (fault : StageFault) → StageCause m.plan p.stanza c k fault → StageCause m.plan p.stanza b k fault
  stage_from b c k read fault (inl held) = inl (held_from b c k read.refusals fault held)
  stage_from b c k read fault (inr found) = inr (subst (λ (o : Option Content). FoundCause m.plan p.stanza o b.tree.nodes fault) read.repo.now (subst (λ (o : Option Nodes). FoundCause m.plan p.stanza c.repo.view.now o fault) read.nodes found))

  -- more objects may have failed from before it
  more_failed : (b c k : World) → AreLater b c → (old : KnownWorld) (fault : F) → m.cause p old (known_world k) (Failed c k) fault → m.cause p old (known_world k) (Failed b k) fault
  more_failed b c k later old fault h = laws.more p old (known_world k) (Failed c k) (Failed b k) (λ object rose. rises_from _ _ _ (later object) rose) fault h

  cause_from : (b c k : World) → AreRead b c → (fault : Fault F) → Cause p m c k fault → Cause p m b k fault
  cause_from b c k read (Stage fault) h = stage_from b c k read fault h
  cause_from b c k read (Own fault) (inl h) = inl h
  cause_from b c k read (Own fault) (inr h) =
      let x = subst (λ (o : KnownWorld). OnReady p m o (λ old. m.cause p old (known_world k) (Failed c k) fault)) (known_same b c read) h in
      inr (x.0, x.1, more_failed b c k read.later (record (known_world b) { repo = x.0 }) fault x.2)
  cause_from b c k read (ObjectFailed object) h = rises_from _ _ _ (read.later object) h
  cause_from b c k read NoMemory h = h

  -- which command of the log it is, known from before
  as_begun : (P : Command → Type 0) (c b new : KnownWorld) → c ≡ b → On (m.manner p c new) P → On (m.manner p b new) P
  as_begun P c b new same h = subst (λ (o : KnownWorld). On (m.manner p o new) P) same h

  -- what was only opened or read before it doesn't matter
  pub did_from : (b c k : World) (r : Result Outcome (Fault F)) → AreRead b c → CallEffect p m c k r → CallEffect p m b k r
  did_from b c k r read did = record {
    steps = as_begun (λ command. Takes Scope p.stanza command (reached_of m (ending_of r)) b.repo.view b.spool.view k.repo.view k.spool.view) (known_world c) (known_world b) (known_world k) (known_same b c read)
        (on_as (m.manner p (known_world c) (known_world k)) _ _ (λ command h. opened_takes p.stanza b.repo.view c.repo.view b.spool.view c.spool.view read.repo.time read.repo.now read.spool.time read.spool.now Scope command (reached_of m (ending_of r)) k.repo.view k.spool.view h) did.steps);
    promise = ok_as r _ _ (λ outcome h. subst (λ (o : KnownWorld). OnReady p m o (λ old. m.promise p old (known_world k) outcome)) (known_same b c read) h) did.promise;
    lasts = ok_as r _ _ (λ outcome h synced some. subst (λ (n : Option Nodes). OnLasting Scope m.plan.pairs (m.lasts p n k.repo.view k.tree.nodes outcome)) read.nodes
        (h (rests_synced p.stanza b.repo.view c.repo.view read.repo.time read.repo.now synced) (subst (λ (o : Option Content). IsSome o) (sym read.repo.now) some))) did.lasts;
    synced = unless_as m.unsyncs _ _ (still_synced p.stanza b.repo.view c.repo.view k.repo.view read.repo) did.synced;
    folder_synced = did.folder_synced;
    acknowledges = on_ok r _ _ (laws.acknowledges_on p b c k read) did.acknowledges;
    cause = err_as r _ _ (cause_from b c k read) did.cause;
    healed = on_ok r (HealsPairs p m c k) (HealsPairs p m b k) (λ h. record {
      agree = λ some. h.agree (subst (λ (o : Option Content). IsSome o) (sym read.repo.now) some);
      lasts = λ synced some. h.lasts (rests_synced p.stanza b.repo.view c.repo.view read.repo.time read.repo.now synced) (subst (λ (o : Option Content). IsSome o) (sym read.repo.now) some);
    }) did.healed;
    spares = spares_on b c k r (still_beside p.stanza b.repo.view c.repo.view read.repo) read.spool (still_leaves m.plan.pairs p.stanza _ _ read.repo) (known_same b c read ∙ ap (λ (o : Option Content). as_known o b.spool.view.now b.tree.nodes b.server b.others b.clock b.links) (sym read.repo.now)) read.later did.spares;
    later = later_on b c k read.later did.later;
  }

  -- that no lock is held any more doesn't matter
  pub did_released : (b k : World) (l : LocksSeen) (r : Result Outcome (Fault F)) → l.ever_taken ≡ k.locks.ever_taken → l.refusals ≡ k.locks.refusals → l.faults ≡ k.locks.faults → CallEffect p m b k r → CallEffect p m b (record k { locks = l }) r
  did_released b k l r ever_taken refusals faults did = subst (λ (x : LocksSeen). CallEffect p m b (record k { locks = x }) r) (sym same) did
    where
      same : l ≡ k.locks
      same = ap (λ t. as_locks t l.refusals l.faults) ever_taken ∙ ap (λ u. as_locks k.locks.ever_taken u l.faults) refusals ∙ ap (λ v. as_locks k.locks.ever_taken k.locks.refusals v) faults

  -- ---- a stage refuses

  stage_reached : (fault : Fault F) → (¬ (reached_of m (ending_of (Err fault)) ≡ to_end))
  stage_reached fault = go (is_early m fault)
    where
      go : (early : Bool) → ¬ (back_if early ≡ to_end)
      go true e = let x : ◌≡◌ {A = Reached} turned_back to_end = e in cc
      go false e = let x : ◌≡◌ {A = Reached} stopped to_end = e in cc

  did_nothing : (b k : World) (fault : Fault F) → Quiet p.stanza b.repo.view k.repo.view → StaysSynced p.stanza b.repo.view k.repo.view → LeavesNoMore b.spool.view k.spool.view → k.spool.view.now ≡ b.spool.view.now → k.others ≡ b.others → Spares p m b k (Err fault) → AreLater b k → Cause p m b k fault → CallEffect p m b k (Err fault)
  did_nothing b k fault quiet synced rests same others spares later cause = record {
    steps = any_on (m.manner p (known_world b) (known_world k)) _ (laws.some p (known_world b) (known_world k) others) (λ command. opened_takes p.stanza b.repo.view b.repo.view b.spool.view k.spool.view (rests_none b.repo.view) refl rests same Scope command (reached_of m (ending_of (Err fault))) k.repo.view k.spool.view
        (quiet_takes Scope p.stanza command (reached_of m (ending_of (Err fault))) b.repo.view k.repo.view k.spool.view (stage_reached fault) quiet));
    promise = tt;
    lasts = tt;
    synced = any_unless m.unsyncs _ synced;
    folder_synced = any_unless m.folder_unsynced _ tt;
    acknowledges = tt;
    cause = cause;
    healed = tt;
    spares = spares;
    later = later;
  }

  -- ---- after the stages

  -- what the stages under the locks add
  did_ran : m.staged ≡ true → (b c k : World) (r : Result Outcome (Fault F)) → c ≡ record b { repo = c.repo; tree = c.tree } → c.tree.nodes ≡ b.tree.nodes → b.repo.faults ≤ c.repo.faults → b.tree.faults ≤ c.tree.faults → Quiet p.stanza b.repo.view c.repo.view → Begins Scope p.stanza b.repo.view c.repo.view →
      Heals m.plan.pairs p.stanza b.repo.view.now c.repo.view.now → IfSome c.repo.view.now (AreHealed m.plan.pairs p.stanza) → (IsSynced p.stanza b.repo.view → IsSome b.repo.view.now → HealsToLast m.plan.pairs p.stanza c.repo.view) → StaysSynced p.stanza b.repo.view c.repo.view → LeavesPair m.plan.pairs p.stanza b.repo.view c.repo.view → PartEffect p m c k r → CallEffect p m b k r
  did_ran staged b c k r others nodes repo_later tree_later quiet begun heals healed durable stays still ran = record {
    steps = laws.healed p (known_world b) (known_world k) c.repo.view.now heals _ (as_begun (λ command. Takes Scope p.stanza command (reached_of m (ending_of r)) b.repo.view b.spool.view k.repo.view k.spool.view) (known_world c) (record (known_world b) { repo = c.repo.view.now }) (known_world k) known_is
        (on_as (m.manner p (known_world c) (known_world k)) _ _ (λ command h. begun_takes Scope p.stanza b.repo.view c.repo.view quiet begun command (reached_of m (ending_of r)) b.spool.view k.repo.view k.spool.view (subst (λ (v : View). DisksEffect Scope p.stanza command (reached_of m (ending_of r)) c.repo.view v k.repo.view k.spool.view) (ap (λ (s : World). s.spool.view) others) (subst (λ (s : Bool). OwnSteps s Scope p.stanza command (reached_of m (ending_of r)) c.repo.view c.spool.view k.repo.view k.spool.view) staged h))) ran.steps));
    promise = ok_as r _ _ (λ outcome h. (c.repo.view.now, heals, subst (λ (o : KnownWorld). m.promise p o (known_world k) outcome) known_is h)) ran.promise;
    lasts = lasting Scope m.plan.pairs refl refl begun durable ran.lasts;
    synced = unless_as m.unsyncs _ _ (λ own synced some. own (stays synced some) (quiet.now.known some)) ran.synced;
    folder_synced = ran.folder_synced;
    acknowledges = all_ok r _ (laws.through staged p (disks_of b) (disks_of k));
    cause = err_as r _ _ own ran.cause;
    healed = on_ok r (StaysHealed p m c k) (HealsPairs p m b k) (λ h. record {
      agree = λ some. h.agree (quiet.now.known some) healed;
      lasts = λ synced some. h.lasts (stays synced some) (quiet.now.known some) (durable synced some);
    }) ran.healed;
    spares = spares_on b c k r quiet.beside (same_still b.spool.view c.spool.view (ap (λ (s : World). s.spool.view) others)) still known_is later ran.spares;
    later = later_on b c k later ran.later;
  }
    where
      known_is : known_world c ≡ record (known_world b) { repo = c.repo.view.now }
      known_is = ap (λ o. as_known c.repo.view.now o c.tree.nodes c.server c.others c.clock c.links) (ap (λ (s : World). s.spool.view.now) others)
          ∙ ap (λ o. as_known c.repo.view.now b.spool.view.now o c.server c.others c.clock c.links) nodes
          ∙ ap (λ o. as_known c.repo.view.now b.spool.view.now b.tree.nodes o c.others c.clock c.links) (ap (λ (s : World). s.server) others)
          ∙ ap (λ o. as_known c.repo.view.now b.spool.view.now b.tree.nodes b.server o c.clock c.links) (ap (λ (s : World). s.others) others)
          ∙ ap (λ o. as_known c.repo.view.now b.spool.view.now b.tree.nodes b.server b.others o c.links) (ap (λ (s : World). s.clock) others)
          ∙ ap (λ o. as_known c.repo.view.now b.spool.view.now b.tree.nodes b.server b.others b.clock o) (ap (λ (s : World). s.links) others)

      later : AreLater b c
      later = all_later b c repo_later (omega (arith, ap (λ (s : World). s.spool.faults) others)) tree_later (omega (arith, ap (λ (s : World). s.server.faults) others)) (omega (arith, ap (λ (s : World). s.others.faults) others))
          (omega (arith, ap (λ (s : World). s.clock.faults) others)) (omega (arith, ap (λ (s : World). s.locks.faults) others)) (omega (arith, ap (λ (s : World). s.config.faults) others)) (omega (arith, ap (λ (s : World). s.out.faults) others))

      -- what is looked at alone was synced, or the pair was healed, so all that a crash leaves has the archive pair
      lasting_so : (how : SyncScope) (pairs : Pairs) → how ≡ Scope → pairs ≡ m.plan.pairs → (outcome : Outcome) → OnLasting how pairs (m.lasts p b.tree.nodes k.repo.view k.tree.nodes outcome) → OnLasting Scope m.plan.pairs (m.lasts p b.tree.nodes k.repo.view k.tree.nodes outcome)
      lasting_so how pairs is same outcome h = subst (λ (q : Pairs). OnLasting Scope q (m.lasts p b.tree.nodes k.repo.view k.tree.nodes outcome)) same (subst (λ (x : SyncScope). OnLasting x pairs (m.lasts p b.tree.nodes k.repo.view k.tree.nodes outcome)) is h)

      from_own : (outcome : Outcome) → OwnLasts p m c k outcome → IsSynced p.stanza b.repo.view → IsSome b.repo.view.now → PairAlike p.stanza c.repo.view → m.lasts p b.tree.nodes k.repo.view k.tree.nodes outcome
      from_own outcome x synced some pair = subst (λ (n : Option Nodes). m.lasts p n k.repo.view k.tree.nodes outcome) nodes (x (stays synced some) (quiet.now.known some) pair)

      lasting : (how : SyncScope) (pairs : Pairs) → how ≡ Scope → pairs ≡ m.plan.pairs → Begins how p.stanza b.repo.view c.repo.view → (IsSynced p.stanza b.repo.view → IsSome b.repo.view.now → HealsToLast pairs p.stanza c.repo.view) →
          OnLasting how pairs (IfOk r (OwnLasts p m c k)) → IfOk r (LastsAfter p m b k)
      lasting Looked pairs is same pair heals h = ok_as r _ _ (λ outcome x synced some. lasting_so Looked pairs is same outcome (from_own outcome x synced some (pair synced some))) h
      lasting Whole HealArchive is same pair heals h = ok_as r _ _ (λ outcome x synced some. lasting_so Whole HealArchive is same outcome (from_own outcome x synced some (alike_value p.stanza c.repo.view (heals synced some)))) h
      lasting Whole Unread is same pair heals h = each_ok r (LastsAfter p m b k) (λ outcome synced some. lasting_so Whole Unread is same outcome tt)
      lasting Whole ReadArchive is same pair heals h = each_ok r (LastsAfter p m b k) (λ outcome synced some. lasting_so Whole ReadArchive is same outcome tt)
      lasting Whole ReadBoth is same pair heals h = each_ok r (LastsAfter p m b k) (λ outcome synced some. lasting_so Whole ReadBoth is same outcome tt)

      own : (fault : Fault F) → OwnCause p m c k fault → Cause p m b k fault
      own (Stage fault) h = absurd h
      own (Own fault) h = inr (c.repo.view.now, heals, more_failed b c k later (record (known_world b) { repo = c.repo.view.now }) fault (subst (λ (o : KnownWorld). m.cause p o (known_world k) (Failed c k) fault) known_is h))
      own (ObjectFailed object) h = rises_from _ _ _ (later object) h
      own NoMemory h = h

  -- the same, by the code's plan
  pub worked : (plan : Plan) → plan ≡ m.plan → m.staged ≡ true → (b c k : World) (r : Result Outcome (Fault F)) → c ≡ record b { repo = c.repo; tree = c.tree } → c.tree.nodes ≡ b.tree.nodes → b.repo.faults ≤ c.repo.faults → b.tree.faults ≤ c.tree.faults → Quiet p.stanza b.repo.view c.repo.view → Begins plan.sync_scope p.stanza b.repo.view c.repo.view →
      Heals plan.pairs p.stanza b.repo.view.now c.repo.view.now → IfSome c.repo.view.now (AreHealed plan.pairs p.stanza) → (IsSynced p.stanza b.repo.view → IsSome b.repo.view.now → HealsToLast plan.pairs p.stanza c.repo.view) → StaysSynced p.stanza b.repo.view c.repo.view → LeavesPair plan.pairs p.stanza b.repo.view c.repo.view → PartEffect p m c k r → CallEffect p m b k r
  worked plan is staged b c k r others nodes repo_later tree_later quiet begun heals healed durable stays still ran = did_ran staged b c k r others nodes repo_later tree_later quiet
      (subst (λ (x : Plan). Begins x.sync_scope p.stanza b.repo.view c.repo.view) is begun) (subst (λ (x : Plan). Heals x.pairs p.stanza b.repo.view.now c.repo.view.now) is heals) (subst (λ (x : Plan). IfSome c.repo.view.now (AreHealed x.pairs p.stanza)) is healed)
      (λ synced some. subst (λ (x : Plan). HealsToLast x.pairs p.stanza c.repo.view) is (durable synced some))
      stays
      (subst (λ (x : Plan). LeavesPair x.pairs p.stanza b.repo.view c.repo.view) is still) ran

  -- the same, of how the command's own part ended
  pub worked_own : (plan : Plan) → plan ≡ m.plan → m.staged ≡ true → (b c k : World) (r : Result Outcome (Halt F)) (ended : Result Outcome (Fault F)) → ended ≡ own_of r → c ≡ record b { repo = c.repo; tree = c.tree } → c.tree.nodes ≡ b.tree.nodes → b.repo.faults ≤ c.repo.faults → b.tree.faults ≤ c.tree.faults → Quiet p.stanza b.repo.view c.repo.view → Begins plan.sync_scope p.stanza b.repo.view c.repo.view →
      Heals plan.pairs p.stanza b.repo.view.now c.repo.view.now → IfSome c.repo.view.now (AreHealed plan.pairs p.stanza) → (IsSynced p.stanza b.repo.view → IsSome b.repo.view.now → HealsToLast plan.pairs p.stanza c.repo.view) → StaysSynced p.stanza b.repo.view c.repo.view → LeavesPair plan.pairs p.stanza b.repo.view c.repo.view → PartEffect p m c k (own_of r) → CallEffect p m b k ended
  worked_own plan is staged b c k r ended lifted others nodes repo_later tree_later quiet begun heals healed durable stays still ran = subst (λ (e : Result Outcome (Fault F)). CallEffect p m b k e) (sym lifted) (worked plan is staged b c k (own_of r) others nodes repo_later tree_later quiet begun heals healed durable stays still ran)

  -- ---- its places were opened alone

  alone_cause : (b k : World) (fault : Fault F) → Heals m.plan.pairs p.stanza b.repo.view.now b.repo.view.now → OwnCause p m b k fault → Cause p m b k fault
  alone_cause b k (Stage fault) heals h = absurd h
  alone_cause b k (Own fault) heals h = inr (b.repo.view.now, heals, h)
  alone_cause b k (ObjectFailed object) heals h = h
  alone_cause b k NoMemory heals h = h

  did_alone : m.staged ≡ false → (b k : World) (r : Result Outcome (Fault F)) → PartEffect p m b k r → CallEffect p m b k r
  did_alone off b k r ran = record {
    steps = on_as (m.manner p (known_world b) (known_world k)) _ _ (λ command h. subst (λ (s : Bool). OwnSteps s Scope p.stanza command (reached_of m (ending_of r)) b.repo.view b.spool.view k.repo.view k.spool.view) off h) ran.steps;
    promise = ok_as r _ _ (λ outcome h. (b.repo.view.now, heals, h)) ran.promise;
    lasts = each_ok r (LastsAfter p m b k) (λ outcome synced some. any_lasting Scope m.plan.pairs _ (laws.lasts_alone off p b.tree.nodes k.repo.view k.tree.nodes outcome));
    synced = ran.synced;
    folder_synced = ran.folder_synced;
    acknowledges = ran.acknowledges;
    cause = err_as r _ _ (λ fault h. alone_cause b k fault heals h) ran.cause;
    healed = all_ok r (HealsPairs p m b k) (record {
      agree = λ some. subst (λ (x : Plan). IfSome k.repo.view.now (AreHealed x.pairs p.stanza)) (sym plan) (none_healed k.repo.view.now);
      lasts = λ synced some. subst (λ (x : Plan). HealsToLast x.pairs p.stanza k.repo.view) (sym plan) tt;
    });
    spares = ran.spares;
    later = ran.later;
  }
    where
      plan : m.plan ≡ places_plan
      plan = laws.opens_only off

      heals : Heals m.plan.pairs p.stanza b.repo.view.now b.repo.view.now
      heals = subst (λ (x : Plan). Heals x.pairs p.stanza b.repo.view.now b.repo.view.now) (sym plan) refl

  -- the same, of how the command's own part ended
  pub alone_own : m.staged ≡ false → (b k : World) (r : Result Outcome (Halt F)) (ended : Result Outcome (Fault F)) → ended ≡ own_of r → PartEffect p m b k (own_of r) → CallEffect p m b k ended
  alone_own off b k r ended lifted ran = subst (λ (e : Result Outcome (Fault F)). CallEffect p m b k e) (sym lifted) (did_alone off b k (own_of r) ran)

  -- ---- a stage refuses, or an object fails in it

  halt_cause : (b k : World) (why : StageFault → Type 0) (failed : Object → Type 0) → ((fault : StageFault) → why fault → StageCause m.plan p.stanza b k fault) → ((object : Object) → failed object → Failed b k object) →
      (halt : Halt StageFault) → HaltCause why failed halt → Cause p m b k (of_stage halt)
  halt_cause b k why failed from rose (Refused fault) h = from fault h
  halt_cause b k why failed from rose (HaltFailed object) h = rose object h
  halt_cause b k why failed from rose HaltMemory h = tt

  halt_closes : (b k : World) (halt : Halt StageFault) → Closes p m b k (of_stage halt)
  halt_closes b k (Refused fault) = tt
  halt_closes b k (HaltFailed object) = tt
  halt_closes b k HaltMemory = tt

  did_err : (b k : World) (fault : Fault F) (r : Result Outcome (Fault F)) → IsErrAnd r (λ f. f ≡ fault) → CallEffect p m b k (Err fault) → CallEffect p m b k r
  did_err b k fault (Ok x) is h = absurd is
  did_err b k fault (Err f) is h = subst (λ (e : Fault F). CallEffect p m b k (Err e)) (sym is) h

  halted_at : (b k : World) (r : Result Outcome (Fault F)) (halt : Halt StageFault) → IsErrAnd r (λ f. f ≡ of_stage halt) → Quiet p.stanza b.repo.view k.repo.view → StaysSynced p.stanza b.repo.view k.repo.view → LeavesNoMore b.spool.view k.spool.view → k.spool.view.now ≡ b.spool.view.now →
      LeavesPair m.plan.pairs p.stanza b.repo.view k.repo.view → k.tree.nodes ≡ b.tree.nodes → k.server ≡ b.server → k.others ≡ b.others → k.links ≡ b.links → k.clock ≡ b.clock → AreLater b k →
      (why : StageFault → Type 0) (failed : Object → Type 0) → ((fault : StageFault) → why fault → StageCause m.plan p.stanza b k fault) → ((object : Object) → failed object → Failed b k object) → HaltCause why failed halt → CallEffect p m b k r
  halted_at b k r halt is quiet synced rests same still nodes server others links clock later why failed from rose cause = did_err b k (of_stage halt) r is (did_nothing b k (of_stage halt) quiet synced rests same others
      (spares_none b k (of_stage halt) quiet.beside (record { now = same; time = rests }) still nodes server others links clock (halt_closes b k halt)) later (halt_cause b k why failed from rose halt cause))

  found_at : (plan : Plan) → plan ≡ m.plan → (b k : World) (fault : StageFault) → FoundCause plan p.stanza b.repo.view.now b.tree.nodes fault → StageCause m.plan p.stanza b k fault
  found_at plan is b k fault h = inr (subst (λ (x : Plan). FoundCause x p.stanza b.repo.view.now b.tree.nodes fault) is h)

  held_at : (plan : Plan) → plan ≡ m.plan → (b k : World) (fault : StageFault) → HeldCause plan p.stanza (Rises b.locks.refusals k.locks.refusals) fault → StageCause m.plan p.stanza b k fault
  held_at plan is b k fault h = inl (subst (λ (x : Plan). HeldCause x p.stanza (Rises b.locks.refusals k.locks.refusals) fault) is h)

  -- the whole of nothing, for this fault
  refused_at : (b : World) (fault : Fault F) → Closes p m b b fault → Cause p m b b fault → CallEffect p m b b (Err fault)
  refused_at b fault closes cause = did_nothing b b fault (still_quiet p.stanza b.repo.view) (λ synced some. synced) (rests_none b.spool.view) refl refl
      (spares_none b b fault (still_beside p.stanza b.repo.view b.repo.view (still_self b.repo.view)) (still_self b.spool.view) (still_leaves m.plan.pairs p.stanza _ _ (still_self b.repo.view)) refl refl refl refl refl closes) (λ object. omega arith) cause

  pub starved : (b : World) (r : Result Outcome (Fault F)) → IsErrAnd r (λ f. f ≡ NoMemory) → CallEffect p m b b r
  starved b r is = did_err b b NoMemory r is (refused_at b NoMemory tt tt)

  -- the command's arguments are refused
  halt_arguments : (b : World) (halt : Halt F) → HaltCause (m.arguments_cause p) Never halt → Closes p m b b (of_own halt)
  halt_arguments b (Refused fault) h = laws.arguments_closes p (known_world b) (Failed b b) fault h
  halt_arguments b (HaltFailed object) h = tt
  halt_arguments b HaltMemory h = tt

  arguments_cause : (b : World) (halt : Halt F) → HaltCause (m.arguments_cause p) Never halt → Cause p m b b (of_own halt)
  arguments_cause b (Refused fault) h = inl h
  arguments_cause b (HaltFailed object) h = absurd h
  arguments_cause b HaltMemory h = tt

  pub worded : (b : World) (halt : Halt F) (fault : Fault F) → fault ≡ of_own halt → HaltCause (m.arguments_cause p) Never halt → CallEffect p m b b (Err fault)
  worded b halt fault is h = subst (λ (e : Fault F). CallEffect p m b b (Err e)) (sym is) (refused_at b (of_own halt) (halt_arguments b halt h) (arguments_cause b halt h))

  -- locks that were taken change nothing that is held
  pub not_taken : (plan : Plan) → plan ≡ m.plan → (b : World) (l : LocksSeen) (r : Result Outcome (Fault F)) (halt : Halt StageFault) → IsErrAnd r (λ f. f ≡ of_stage halt) → b.locks.refusals ≤ l.refusals → b.locks.faults ≤ l.faults →
      HaltCause (HeldCause plan p.stanza (Rises b.locks.refusals l.refusals)) (Only Locks (Rises b.locks.faults l.faults)) halt → CallEffect p m b (record b { locks = l }) r
  not_taken plan is b l r halt err refusals faults cause = halted_at b (record b { locks = l }) r halt err (still_quiet p.stanza b.repo.view) (λ synced some. synced) (rests_none b.spool.view) refl
      (still_leaves m.plan.pairs p.stanza _ _ (still_self b.repo.view)) refl refl refl refl refl (locks_read b l refusals faults).later
      (HeldCause plan p.stanza (Rises b.locks.refusals l.refusals)) (Only Locks (Rises b.locks.faults l.faults)) (held_at plan is b (record b { locks = l }))
      (only_rose b (record b { locks = l }) Locks (Rises b.locks.faults l.faults) (λ h. h)) cause

  pub unprepared : (plan : Plan) → plan ≡ m.plan → (b k : World) (r : Result Outcome (Fault F)) (halt : Halt StageFault) → IsErrAnd r (λ f. f ≡ of_stage halt) → Quiet p.stanza b.repo.view k.repo.view → StaysSynced p.stanza b.repo.view k.repo.view → LeavesNoMore b.spool.view k.spool.view → k.spool.view.now ≡ b.spool.view.now →
      LeavesPair plan.pairs p.stanza b.repo.view k.repo.view → k.tree.nodes ≡ b.tree.nodes → k.server ≡ b.server → k.others ≡ b.others → k.links ≡ b.links → k.clock ≡ b.clock → AreLater b k → (failed : Object → Type 0) → ((object : Object) → failed object → Failed b k object) →
      HaltCause (FoundCause plan p.stanza b.repo.view.now b.tree.nodes) failed halt → CallEffect p m b k r
  unprepared plan is b k r halt err quiet synced rests same still nodes server others links clock later failed rose cause =
      halted_at b k r halt err quiet synced rests same (subst (λ (x : Plan). LeavesPair x.pairs p.stanza b.repo.view k.repo.view) is still) nodes server others links clock later (FoundCause plan p.stanza b.repo.view.now b.tree.nodes) failed (found_at plan is b k) rose cause

  -- a place can't be opened
  pub unopened : (b k : World) (r : Result Outcome (Fault F)) (halt : Halt StageFault) → IsErrAnd r (λ f. f ≡ of_stage halt) → AreRead b k → HaltCause Never (Failed b k) halt → CallEffect p m b k r
  unopened b k r halt err read cause = halted_at b k r halt err (rests_quiet p.stanza b.repo.view k.repo.view read.repo.time read.repo.now) (λ synced some. rests_synced p.stanza b.repo.view k.repo.view read.repo.time read.repo.now synced) read.spool.time read.spool.now
      (still_leaves m.plan.pairs p.stanza _ _ read.repo) read.nodes read.server read.others read.links read.clock read.later Never (Failed b k) (λ fault h. absurd h) (λ object h. h) cause
