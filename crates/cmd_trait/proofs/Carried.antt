-- What was done, known by the output.
use Rattle.std.proofs.Common.{◌≡◌, ◌≤◌, ◌∙◌, ◌⊎◌, ⊎_elim, ℕ, List, inl, inr, Bool, true, false, Option, Some, None, Result, Ok, Err, IfErr, refl, sym, subst, arith}
use Rattle.std.specs.Prelude.{OnOk, IsErrAnd}
use Rattle.base_devices.specs.Cause.{Rises}
use Rattle.base_devices.specs.States.{OutputState, InputState}
use Rattle.base_model.specs.Text.{Text}
use Rattle.archive_store.specs.Still.{IsStill, still_self}
use Rattle.cmd_types.specs.declared.stages.object.Object.{Object}
use Rattle.cmd_types.specs.declared.stages.object.Object.TheVariants.{Repo, Spool, TheDataFolder, Server, Others, Clock, Locks, Config, Output}
use Rattle.cmd_types.specs.declared.stages.outcome.Outcome.{Outcome}
use Rattle.cmd_types.specs.declared.stages.fault.StageFault.{StageFault}
use Rattle.cmd_types.specs.declared.stages.halt.Halt.{Halt}
use Rattle.cmd_types.specs.declared.stages.halt.Halt.TheVariants.{Refused, Failed as HaltFailed, NoMemory as HaltMemory}
use Rattle.cmd_types.specs.Halts.{HaltCause, Never}
use Rattle.cmd_types.specs.World.{World, Failed, AreLater, AreRead}
use Rattle.cmd_types.proofs.Counts.{rises_to}
use Rattle.cmd_trait.specs.declared.fault.Fault.{Fault}
use Rattle.cmd_trait.specs.declared.fault.Fault.TheVariants.{Stage, Own, Failed as ObjectFailed, NoMemory}
use Rattle.cmd_trait.specs.KnownWorld.{known_world}
use Rattle.cmd_trait.specs.Faults.{of_stage, of_own}
use Rattle.cmd_trait.specs.Meaning.{Place, Meaning, IsLawful}
use Rattle.cmd_trait.specs.Ends.{status, ending_of, lines_of}
use Rattle.cmd_trait.specs.Output.{IsPrinted}
use Rattle.cmd_trait.specs.CallEffect.{IsIdle, HealsPairs, CallEffect, ArgumentsCause, ComesAfter, Brackets, Cause, Closes, OpensNamed, OpensIf, OpensPlaces, ArePlacesOpened, Carries}
use Rattle.cmd_trait.proofs.Ends.{all_later}
use Rattle.cmd_trait.proofs.CallEffects.{later_on, err_as, on_ok, did_from}

pub is_idle : (b : World) → IsIdle b b
is_idle b = record { repo = still_self b.repo.view; opened = refl; spool_opened = refl; spool = still_self b.spool.view; tree = refl; server = refl; others = refl; clock = refl; locks = refl; links = refl }

pub none_named : (o : Option Text) (opened : List Text) → OpensNamed o opened opened
none_named None opened = refl
none_named (Some place) opened = inl refl

pub none_if : (b : Bool) (place : Text) (opened : List Text) → OpensIf b place opened opened
none_if true place opened = inl refl
none_if false place opened = refl

config_read : (b : World) (i : InputState) → i.files ≡ b.config.files → b.config.faults ≤ i.faults → AreRead b (record b { config = i })
config_read b i files le = record {
  repo = still_self b.repo.view;
  spool = still_self b.spool.view;
  nodes = refl;
  server = refl;
  others = refl;
  clock = refl;
  links = refl;
  files = files;
  out = refl;
  refusals = omega arith;
  later = config_later b i le;
}
  where
    config_later : (b : World) (i : InputState) → b.config.faults ≤ i.faults → AreLater b (record b { config = i })
    config_later b i le = all_later b (record b { config = i }) (omega arith) (omega arith) (omega arith) (omega arith) (omega arith) (omega arith) (omega arith) le (omega arith)

pub idle_from : (b k : World) (i : InputState) → IsIdle (record b { config = i }) k → IsIdle b k
idle_from b k i h = record { repo = h.repo; opened = h.opened; spool_opened = h.spool_opened; spool = h.spool; tree = h.tree; server = h.server; others = h.others; clock = h.clock; locks = h.locks; links = h.links }

pub idle_self : (b : World) (i : InputState) (o : OutputState) → IsIdle b (record b { config = i; out = o })
idle_self b i o = record { repo = still_self b.repo.view; opened = refl; spool_opened = refl; spool = still_self b.spool.view; tree = refl; server = refl; others = refl; clock = refl; locks = refl; links = refl }

module _ {F : Type 0} (p : Place) (m : Meaning F) (laws : IsLawful m) where
  -- ---- arguments that are refused

  why_arguments : (halt : Halt F) → HaltCause (m.arguments_cause p) Never halt → ArgumentsCause p m (of_own halt)
  why_arguments (Refused fault) h = h
  why_arguments (HaltFailed object) h = absurd h
  why_arguments HaltMemory h = tt

  pub unread : (b : World) (halt : Halt F) (fault : Fault F) → fault ≡ of_own halt → HaltCause (m.arguments_cause p) Never halt → ComesAfter p m b b (Err fault)
  unread b halt fault is h = inl (subst (λ (e : Fault F). ArgumentsCause p m e) (sym is) (why_arguments halt h), is_idle b)

  pub read_well : (b k : World) (r : Result Outcome (Fault F)) → m.arguments p → ComesAfter p m b k r
  read_well b k (Ok x) h = tt
  read_well b k (Err e) h = inr h

  -- no place is opened, and no lock is taken
  pub no_brackets : (b : World) (fault : Fault F) → Brackets p m b b (Err fault)
  no_brackets b fault = record {
    places = record { spool = none_named m.spool b.spool.opened; folder = none_if m.plan.folder p.data_folder b.tree.opened; repository = inl refl };
    opened = tt;
    ever_taken = tt;
    locked = inr (inl refl, still_self b.repo.view);
  }

  -- a place can't be opened
  pub unopened_brackets : (b k : World) (r : Result Outcome (Fault F)) (halt : Halt StageFault) → IsErrAnd r (λ f. f ≡ of_stage halt) → IsStill b.repo.view k.repo.view → k.locks.ever_taken ≡ b.locks.ever_taken → OpensPlaces p m b k → Brackets p m b k r
  unopened_brackets b k (Ok x) halt is still none places = absurd is
  unopened_brackets b k (Err fault) halt is still none places = record { places = places; opened = tt; ever_taken = tt; locked = inr (inl none, still) }

  module _ (b k : World) (o : OutputState) (le : k.out.faults ≤ o.faults) where
    abbrev written : World
    written = record k { out = o }

    out_failed : (object : Object) → Failed b k object → Failed b written object
    out_failed Repo h = h
    out_failed Spool h = h
    out_failed TheDataFolder h = h
    out_failed Server h = h
    out_failed Others h = h
    out_failed Clock h = h
    out_failed Locks h = h
    out_failed Config h = h
    out_failed Output h = rises_to b.out.faults k.out.faults o.faults le h

    out_cause : (fault : Fault F) → Cause p m b k fault → Cause p m b written fault
    out_cause (Stage fault) h = h
    out_cause (Own fault) (inl h) = inl h
    out_cause (Own fault) (inr h) = inr (h.0, h.1, laws.more p (record (known_world b) { repo = h.0 }) (known_world k) (Failed b k) (Failed b written) out_failed fault h.2)
    out_cause (ObjectFailed object) h = out_failed object h
    out_cause NoMemory h = h

    out_closes : (fault : Fault F) → Closes p m b k fault → Closes p m b written fault
    out_closes (Stage fault) h = h
    out_closes (Own fault) h = laws.closes_more p (known_world b) (known_world k) b.repo.view.now (Failed b k) (Failed b written) out_failed fault h
    out_closes (ObjectFailed object) h = h
    out_closes NoMemory h = h

    pub did_written : (r : Result Outcome (Fault F)) → CallEffect p m b k r → CallEffect p m b written r
    did_written r did = record {
      steps = did.steps;
      promise = did.promise;
      lasts = did.lasts;
      synced = did.synced;
      folder_synced = did.folder_synced;
      acknowledges = did.acknowledges;
      cause = err_as r _ _ out_cause did.cause;
      healed = on_ok r (HealsPairs p m b k) (HealsPairs p m b written) (λ h. record { agree = h.agree; lasts = h.lasts }) did.healed;
      spares = record {
        beside = did.spares.beside;
        spool = did.spares.spool;
        repository = did.spares.repository;
        folder = did.spares.folder;
        others = did.spares.others;
        turned = did.spares.turned;
        server = did.spares.server;
        workers = did.spares.workers;
        clock = did.spares.clock;
        closed = err_as r _ _ out_closes did.spares.closed;
      };
      later = later_on b k written did.later (all_later k written (omega arith) (omega arith) (omega arith) (omega arith) (omega arith) (omega arith) (omega arith) (omega arith) le);
    }

    idle_written : IsIdle b k → IsIdle b written
    idle_written h = record { repo = h.repo; opened = h.opened; spool_opened = h.spool_opened; spool = h.spool; tree = h.tree; server = h.server; others = h.others; clock = h.clock; locks = h.locks; links = h.links }

    arguments_written : (r : Result Outcome (Fault F)) → ComesAfter p m b k r → ComesAfter p m b written r
    arguments_written r h = err_as r _ _ (λ fault x. ⊎_elim (λ (y : ArgumentsCause p m fault × IsIdle b k). inl (y.0, idle_written y.1)) (λ (y : m.arguments p). inr y) x) h

    brackets_written : (r : Result Outcome (Fault F)) → Brackets p m b k r → Brackets p m b written r
    brackets_written r h = record {
      places = record { spool = h.places.spool; folder = h.places.folder; repository = h.places.repository };
      opened = on_ok r (ArePlacesOpened p m b k) (ArePlacesOpened p m b written) (λ x. record { spool = x.spool; folder = x.folder; repository = x.repository }) h.opened;
      ever_taken = h.ever_taken;
      locked = h.locked;
    }

    pub carries : (unknown : List Text) (r : Result Outcome (Fault F)) (n : ℕ) → k.out ≡ b.out → ComesAfter p m b k r → CallEffect p m b k r → Brackets p m b k r →
        IsPrinted k.out.written (lines_of m unknown (ending_of r)) (status m (ending_of r)) o.written (Rises k.out.faults o.faults) n → Carries p m unknown b written n
    carries unknown r n same arguments did brackets printed = record {
      ended = r;
      arguments = arguments_written r arguments;
      did = did_written r did;
      brackets = brackets_written r brackets;
      answered = subst (λ (x : OutputState). IsPrinted x.written (lines_of m unknown (ending_of r)) (status m (ending_of r)) o.written (Rises x.faults o.faults) n) same printed;
    }

  -- ---- the configuration was only read before it

  arguments_from : (b k : World) (i : InputState) (r : Result Outcome (Fault F)) → ComesAfter p m (record b { config = i }) k r → ComesAfter p m b k r
  arguments_from b k i r h = err_as r _ _ (λ fault x. ⊎_elim (λ (y : ArgumentsCause p m fault × IsIdle (record b { config = i }) k). inl (y.0, idle_from b k i y.1)) (λ (y : m.arguments p). inr y) x) h

  brackets_from : (b k : World) (i : InputState) (r : Result Outcome (Fault F)) → Brackets p m (record b { config = i }) k r → Brackets p m b k r
  brackets_from b k i r h = record {
    places = record { spool = h.places.spool; folder = h.places.folder; repository = h.places.repository };
    opened = on_ok r (ArePlacesOpened p m (record b { config = i }) k) (ArePlacesOpened p m b k) (λ x. record { spool = x.spool; folder = x.folder; repository = x.repository }) h.opened;
    ever_taken = h.ever_taken;
    locked = h.locked;
  }

  pub carries_from : (u : List Text) (b k : World) (i : InputState) (n : ℕ) → i.files ≡ b.config.files → b.config.faults ≤ i.faults → Carries p m u (record b { config = i }) k n → Carries p m u b k n
  carries_from u b k i n files le c = record {
    ended = c.ended;
    arguments = arguments_from b k i c.ended c.arguments;
    did = did_from p m laws b (record b { config = i }) k c.ended (config_read b i files le) c.did;
    brackets = brackets_from b k i c.ended c.brackets;
    answered = c.answered;
  }

abbrev pub sink : Option Text → ℕ → OutputState
sink written faults = record { written = written; faults = faults }
