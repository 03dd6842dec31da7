-- The places that a command opens, and the locks that it takes.
use Rattle.std.proofs.Common.{◌≡◌, ◌⊎◌, ⊎_elim, inl, inr, List, Option, Result, refl, sym, ◌∙◌, subst, false}
use Rattle.std.specs.Prelude.{OnOk, option_map, Some, None}
use Rattle.base_devices.specs.States.{IsOpened, OpensOnly}
use Rattle.archive_store.specs.Still.{IsStill, still_on}
use Rattle.base_model.specs.Text.{Text}
use Rattle.cmd_types.specs.declared.stages.plan.Plan.{Plan}
use Rattle.cmd_types.specs.declared.stages.outcome.Outcome.{Outcome}
use Rattle.cmd_types.specs.Plans.{TakesLocks}
use Rattle.cmd_types.specs.World.{LocksSeen, World}
use Rattle.cmd_setup.specs.Taking.{MayTake}
use Rattle.cmd_trait.specs.declared.fault.Fault.{Fault}
use Rattle.cmd_trait.specs.Meaning.{Place, Meaning, IsLawful}
use Rattle.cmd_trait.specs.CallEffect.{Brackets, SamePlaces, OpensPlaces, ArePlacesOpened, OpensNamed, IsOpenedNamed, OpensIf, IsOpenedIf, TakesAll, OnlyLocked}
use Rattle.cmd_trait.proofs.CallEffects.{on_ok, all_ok}

nothing_taken : (ever_taken : Option (List (Text × Text))) → ever_taken ≡ option_map (λ (l : List (Text × Text)). l) ever_taken
nothing_taken None = refl
nothing_taken (Some l) = refl

module _ {F : Type 0} (p : Place) (m : Meaning F) (laws : IsLawful m) where
  -- places are opened, and then locks are taken
  pub brackets_on : (b c k : World) (r : Result Outcome (Fault F)) → IsStill b.repo.view c.repo.view → c.locks.ever_taken ≡ b.locks.ever_taken → OpensPlaces p m b c → ArePlacesOpened p m b c → SamePlaces c k → OnOk r (TakesAll p m c k) → OnlyLocked p m c k → Brackets p m b k r
  brackets_on b c k r still none places opened same ever_taken only =
      let plan = m.plan in record {
        places = record {
          spool = subst (λ (ts : List Text). OpensNamed m.spool b.spool.opened ts) (sym same.spool) places.spool;
          folder = subst (λ (ts : List Text). OpensIf plan.folder p.data_folder b.tree.opened ts) (sym same.tree) places.folder;
          repository = subst (λ (ts : List Text). OpensOnly p.repository b.repo.opened ts) (sym same.repo) places.repository;
        };
        opened = all_ok r (ArePlacesOpened p m b k) (record {
          spool = subst (λ (ts : List Text). IsOpenedNamed m.spool b.spool.opened ts) (sym same.spool) opened.spool;
          folder = subst (λ (ts : List Text). IsOpenedIf plan.folder p.data_folder b.tree.opened ts) (sym same.tree) opened.folder;
          repository = subst (λ (ts : List Text). IsOpened p.repository b.repo.opened ts) (sym same.repo) opened.repository;
        });
        ever_taken = subst (λ (t : Option (List (Text × Text))). OnOk r (TakesLocks plan p.lock_folder p.stanza t k.locks.ever_taken)) none ever_taken;
        locked = ⊎_elim (λ x. inl x) (λ x. inr (x.0, still_on b.repo.view c.repo.view k.repo.view still x.1))
            (subst (λ (t : Option (List (Text × Text))). TakesLocks plan p.lock_folder p.stanza t k.locks.ever_taken ⊎ (MayTake plan p.lock_folder p.stanza t k.locks.ever_taken × IsStill c.repo.view k.repo.view)) none only);
      }

  -- it takes no lock
  takes_none : m.staged ≡ false → (c k : World) → k.locks.ever_taken ≡ c.locks.ever_taken → TakesAll p m c k
  takes_none off c k same = subst (λ (x : Plan). TakesLocks x p.lock_folder p.stanza c.locks.ever_taken k.locks.ever_taken) (sym (laws.opens_only off)) (same ∙ nothing_taken c.locks.ever_taken)

  -- places are opened, and no lock is taken
  pub alone_brackets : m.staged ≡ false → (b c k : World) (r : Result Outcome (Fault F)) → IsStill b.repo.view c.repo.view → c.locks.ever_taken ≡ b.locks.ever_taken → OpensPlaces p m b c → ArePlacesOpened p m b c → SamePlaces c k → k.locks.ever_taken ≡ c.locks.ever_taken → Brackets p m b k r
  alone_brackets off b c k r still none places opened same ever_taken = brackets_on b c k r still none places opened same (all_ok r (TakesAll p m c k) (takes_none off c k ever_taken)) (inl (takes_none off c k ever_taken))

  -- locks that are released were taken
  pub brackets_released : (b k : World) (l : LocksSeen) (r : Result Outcome (Fault F)) → l.ever_taken ≡ k.locks.ever_taken → Brackets p m b k r → Brackets p m b (record k { locks = l }) r
  brackets_released b k l r same h = record {
    places = record { spool = h.places.spool; folder = h.places.folder; repository = h.places.repository };
    opened = on_ok r (ArePlacesOpened p m b k) (ArePlacesOpened p m b (record k { locks = l })) (λ x. record { spool = x.spool; folder = x.folder; repository = x.repository }) h.opened;
    ever_taken = subst (λ (t : Option (List (Text × Text))). OnOk r (TakesLocks m.plan p.lock_folder p.stanza b.locks.ever_taken t)) (sym same) h.ever_taken;
    locked = subst (λ (t : Option (List (Text × Text))). TakesLocks m.plan p.lock_folder p.stanza b.locks.ever_taken t ⊎ (MayTake m.plan p.lock_folder p.stanza b.locks.ever_taken t × IsStill b.repo.view k.repo.view)) (sym same) h.locked;
  }
