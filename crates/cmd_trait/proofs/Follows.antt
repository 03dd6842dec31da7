-- What follows for a command that was obeyed, whichever it is.
use Rattle.std.proofs.Common.{◌≡◌, ◌≤◌, ◌≢◌, ◌∙◌, ◌⊎◌, ⊎_elim, ℕ, List, inl, inr, Result, Ok, Err, IfErr, refl, ap, sym, subst, arith}
use Rattle.std.specs.Prelude.{OnOk}
use Rattle.base_model.specs.Text.{Text}
use Rattle.cmd_types.specs.declared.stages.object.Object.TheVariants.{Output}
use Rattle.cmd_types.specs.declared.stages.outcome.Outcome.{Outcome}
use Rattle.cmd_types.specs.declared.stages.outcome.Outcome.TheVariants.{Finished, Absent, FindingsFound}
use Rattle.cmd_types.specs.DisksEffect.{Reached, to_end, turned_back, OnAll, OnNone}
use Rattle.cmd_types.specs.World.{World, Failed}
use Rattle.cmd_types.proofs.Lifted.{on_as}
use Rattle.cmd_trait.specs.declared.fault.Fault.{Fault}
use Rattle.cmd_trait.specs.KnownWorld.{known_world}
use Rattle.cmd_trait.specs.Meaning.{Place, Meaning, IsLawful, IsEarly}
use Rattle.cmd_trait.specs.Ends.{status, status_of, ending_of, reached_of, lines_of}
use Rattle.cmd_trait.specs.Output.{IsPrinted, Whole, Cut, Starved, Wordless}
use Rattle.cmd_trait.specs.CallEffect.{CallEffect, Cause, Carries, OpensPlaces, OnlyLocked}
use Rattle.cmd_trait.specs.Follows.{PartDone, Finishes, EndsWell, Fulfils, TurnsBack, LeavesRest}
use Rattle.cmd_trait.proofs.Statuses.{over, apart, zero_ends, early_ends, late}

all_at : (reached : Reached) (P : Type 0) → reached ≡ to_end → OnAll reached P → P
all_at reached P is h = subst (λ (x : Reached). OnAll x P) is h

none_at : (reached : Reached) (P : Type 0) → reached ≡ turned_back → OnNone reached P → P
none_at reached P is h = subst (λ (x : Reached). OnNone x P) is h

pub either_is : (n m : ℕ) → (n ≡ m) ⊎ (n ≢ m)
either_is n m = grind arith

module _ {F : Type 0} (p : Place) (m : Meaning F) (laws : IsLawful m) (u : List Text) (b k : World) (n : ℕ) (c : Carries p m u b k n) where
  -- the status is that of how it ended, or of an output or a memory that failed
  pub known_as : {P : Type 0} → (n ≡ status m (ending_of c.ended) → P) → (n ≡ 87 → Failed b k Output → P) → (n ≡ 90 → P) → P
  known_as {P} well cut starved = go n refl c.answered
    where
      go : (x : ℕ) → n ≡ x → IsPrinted b.out.written (lines_of m u (ending_of c.ended)) (status m (ending_of c.ended)) k.out.written (Failed b k Output) x → P
      go x is (Whole result same wrote) = well (is ∙ same)
      go _ is (Cut rose prefix) = cut is rose
      go _ is (Starved lines which prefix) = starved is
      go _ is (Wordless rose prefix) = cut is rose

  ok_at : (P : Type 0) → status m (ending_of c.ended) ≡ 0 → OnOk c.ended P → P
  ok_at P is h = go c.ended is h
    where
      go : (r : Result Outcome (Fault F)) → status m (ending_of r) ≡ 0 → OnOk r P → P
      go (Ok x) is h = h
      go (Err e) is h = absurd (omega (arith, is, over m laws e))

  pub finishes : n ≡ 0 → Finishes p m b k
  finishes zero =
      let is : status m (ending_of c.ended) ≡ 0 = known_as (λ e. sym e ∙ zero) (λ e rose. absurd (omega (arith, e, zero))) (λ e. absurd (omega (arith, e, zero))) in
      record {
        all = on_as (m.manner p (known_world b) (known_world k)) _ _ (λ command h. all_at (reached_of m (ending_of c.ended)) _ (zero_ends m laws c.ended is) h.whole) c.did.steps;
        ends = on_as (m.manner p (known_world b) (known_world k)) _ _ (λ command h. all_at (reached_of m (ending_of c.ended)) _ (zero_ends m laws c.ended is) h.ends) c.did.steps;
        healed = ok_at _ is c.did.healed;
        opened = ok_at _ is c.brackets.opened;
        ever_taken = ok_at _ is c.brackets.ever_taken;
      }

  pub part_done : PartDone p m b k
  part_done = on_as (m.manner p (known_world b) (known_world k)) _ _ (λ command h. (h.part, h.between, h.receipts)) c.did.steps

  late_at : {P : Type 0} → IsEarly n → (k : ℕ) → n ≡ k → (73 ≤ k) → (k ≤ 99) → k ≢ 83 → P
  late_at early k is lo hi other = absurd (late k lo hi other (subst IsEarly is early))

  status_at : IsEarly n → n ≡ status m (ending_of c.ended)
  status_at early = known_as (λ is. is) (λ is rose. late_at early 87 is (omega arith) (omega arith) (λ e. absurd (omega (arith, e)))) (λ is. late_at early 90 is (omega arith) (omega arith) (λ e. absurd (omega (arith, e))))

  pub turns_back : IsEarly n → TurnsBack p m b k n
  turns_back early =
      let is = status_at early in
      let back = early_ends m laws c.ended (subst IsEarly is early) in
      record {
        none = on_as (m.manner p (known_world b) (known_world k)) _ _ (λ command h. none_at (reached_of m (ending_of c.ended)) _ back h.turned) c.did.steps;
        turned = subst (λ (x : ℕ). m.turned p (known_world b) (known_world k) x) (sym is) (none_at (reached_of m (ending_of c.ended)) _ back c.did.spares.turned);
      }

  pub leaves_rest : LeavesRest p m b k
  leaves_rest = record {
    beside = c.did.spares.beside;
    spool = c.did.spares.spool;
    repository = c.did.spares.repository;
    synced = c.did.synced;
    folder = c.did.spares.folder;
    others = c.did.spares.others;
    server = c.did.spares.server;
    workers = c.did.spares.workers;
    clock = c.did.spares.clock;
  }

  pub opens_places : OpensPlaces p m b k
  opens_places = c.brackets.places

  pub only_locked : OnlyLocked p m b k
  only_locked = c.brackets.locked

  -- no refusal has a status of a command that succeeded
  ill : (status : ℕ) → 2 ≤ status → status ≢ 65 → ¬ EndsWell status
  ill status two other (inl small) = absurd (omega (arith, two, small))
  ill status two other (inr is) = absurd (other is)

  pub fulfils : EndsWell n → Fulfils p m b k n
  fulfils well = go c.ended c.did n refl c.answered
    where
      go : (r : Result Outcome (Fault F)) → CallEffect p m b k r → (x : ℕ) → n ≡ x → IsPrinted b.out.written (lines_of m u (ending_of r)) (status m (ending_of r)) k.out.written (Failed b k Output) x → Fulfils p m b k n
      go (Ok outcome) did x is (Whole result same wrote) = record { outcome = outcome; is = is ∙ same; promise = did.promise; lasts = did.lasts; folder_synced = did.folder_synced; acknowledges = did.acknowledges; unknown = u; wrote = wrote }
      go (Err e) did x is (Whole result same wrote) = absurd (ill (status_of m e) (over m laws e) (apart m laws e) (subst EndsWell (is ∙ same) well))
      go r did _ is (Cut rose prefix) = absurd (ill 87 (omega arith) (λ e. absurd (omega (arith, e))) (subst EndsWell is well))
      go r did _ is (Starved lines which prefix) = absurd (ill 90 (omega arith) (λ e. absurd (omega (arith, e))) (subst EndsWell is well))
      go r did _ is (Wordless rose prefix) = absurd (ill 87 (omega arith) (λ e. absurd (omega (arith, e))) (subst EndsWell is well))

  -- where no cause of a refusal holds
  pub completes : ((fault : Fault F) → status_of m fault ≢ 90 → ¬ Cause p m b k fault) → ¬ Failed b k Output → EndsWell n ⊎ (n ≡ 90)
  completes none whole = known_as (λ is. by c.ended is c.did.cause) (λ is rose. absurd (whole rose)) (λ is. inr is)
    where
      by : (r : Result Outcome (Fault F)) → n ≡ status m (ending_of r) → IfErr r (Cause p m b k) → EndsWell n ⊎ (n ≡ 90)
      by (Ok (Finished lines)) is cause = inl (inl (omega (arith, is)))
      by (Ok (FindingsFound lines count)) is cause = inl (inr is)
      by (Ok (Absent name)) is cause = inl (inl (omega (arith, is)))
      by (Err e) is cause = ⊎_elim (λ (x : status_of m e ≡ 90). inr (is ∙ x)) (λ other. absurd (none e other cause)) (either_is (status_of m e) 90)
