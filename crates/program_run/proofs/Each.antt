-- What follows for each command that the arguments ask for.
use Rattle.std.proofs.Common.{◌≡◌, ◌≢◌, ◌∙◌, ◌⊎◌, ℕ, List, [], inl, inr, Option, None, Some, Ok, refl, sym, ap, subst, arith}
use Rattle.std.specs.Prelude.{IsSome}
use Rattle.base_devices.specs.Content.{Content}
use Rattle.base_model.specs.Text.{Text}
use Rattle.options_read.specs.Settings.{Resolved}
use Rattle.options_read.specs.declared.usage.Usage.{Usage}
use Rattle.cmd_types.specs.declared.stages.object.Object.TheVariants.{Output}
use Rattle.cmd_types.specs.World.{World, Failed}
use Rattle.cmd_trait.specs.declared.fault.Fault.{Fault}
use Rattle.cmd_trait.specs.CallEffect.{IsIdle, Carries, OpensPlaces, OnlyLocked}
use Rattle.cmd_trait.specs.Follows.{Finishes, PartDone, TurnsBack, Fulfils, LeavesRest, EndsWell}
use Rattle.cmd_trait.specs.Meaning.{IsEarly}
use Rattle.cmd_trait.proofs.Follows as follow
use Rattle.cmd_trait.proofs.Idle.{idle_part, idle_back, idle_rest, idle_places, idle_locked}
use Rattle.cmd_trait.proofs.Talks.{ends_talk}
use Rattle.program_run.specs.Answers.{PrintsRefusal, Answers, Completes, ClosesTalk}
use Rattle.program_run.specs.Asked.{ArgumentsResolve, asked, Asks}
use Rattle.program_run.proofs.AskedOnce.{one_settling, ok_same}
use Rattle.program_run.proofs.Lawful.{lawful}
use Rattle.program_run.proofs.Refused.{never_well, only_memory, idle_talk}

-- the arguments were refused, and nothing was done; or the command was carried out
abbrev pub Either : Resolved → World → World → ℕ → Type 0
Either s b k n = (IsIdle b k × ((fault : Fault Usage) × PrintsRefusal [] fault b k n)) ⊎ Carries (asked s).at (asked s).means s.warnings b k n

-- one command is asked for
pub one_asked : (arguments : List Text) (files : Option Content) (s t : Resolved) → IsSome files → ArgumentsResolve arguments files (Ok s) → ArgumentsResolve arguments files (Ok t) → s ≡ t
one_asked arguments None s t known p q = cc
one_asked arguments (Some f) s t known p q = ok_same s t (one_settling arguments f (Ok s) (Ok t) p q)

pub found : (arguments : List Text) (b k : World) (n : ℕ) → Answers arguments b k n → (s : Resolved) → Asks arguments b.config.files s → Either s b k n
found arguments b k n (inl r) s asks = inl (r.idle, (r.fault, r.printed))
found arguments b k n (inr (t, settles, c)) s asks = inr (subst (λ (x : Resolved). Carries (asked x).at (asked x).means x.warnings b k n) (one_asked arguments b.config.files t s asks.known settles asks.asks) c)

module _ (s : Resolved) (b k : World) (n : ℕ) where
  pub finishes : n ≡ 0 → Either s b k n → Finishes (asked s).at (asked s).means b k
  finishes zero (inl x) = absurd (never_well [] x.1.0 b k n x.1.1 (inl (omega (arith, zero))))
  finishes zero (inr c) = follow.finishes (asked s).at (asked s).means (lawful s) s.warnings b k n c zero

  pub part_done : Either s b k n → PartDone (asked s).at (asked s).means b k
  part_done (inl x) = idle_part (asked s).at (asked s).means (lawful s) b k x.0
  part_done (inr c) = follow.part_done (asked s).at (asked s).means (lawful s) s.warnings b k n c

  pub turns_back : IsEarly n → Either s b k n → TurnsBack (asked s).at (asked s).means b k n
  turns_back early (inl x) = idle_back (asked s).at (asked s).means (lawful s) b k x.0 n
  turns_back early (inr c) = follow.turns_back (asked s).at (asked s).means (lawful s) s.warnings b k n c early

  pub fulfils : EndsWell n → Either s b k n → Fulfils (asked s).at (asked s).means b k n
  fulfils well (inl x) = absurd (never_well [] x.1.0 b k n x.1.1 well)
  fulfils well (inr c) = follow.fulfils (asked s).at (asked s).means (lawful s) s.warnings b k n c well

  pub leaves_rest : Either s b k n → LeavesRest (asked s).at (asked s).means b k
  leaves_rest (inl x) = idle_rest (asked s).at (asked s).means (lawful s) b k x.0
  leaves_rest (inr c) = follow.leaves_rest (asked s).at (asked s).means (lawful s) s.warnings b k n c

  pub opens_places : Either s b k n → OpensPlaces (asked s).at (asked s).means b k
  opens_places (inl x) = idle_places (asked s).at (asked s).means (lawful s) b k x.0
  opens_places (inr c) = follow.opens_places (asked s).at (asked s).means (lawful s) s.warnings b k n c

  pub only_locked : Either s b k n → OnlyLocked (asked s).at (asked s).means b k
  only_locked (inl x) = idle_locked (asked s).at (asked s).means (lawful s) b k x.0
  only_locked (inr c) = follow.only_locked (asked s).at (asked s).means (lawful s) s.warnings b k n c

-- where no cause of a refusal holds
pub completes : (arguments : List Text) (b k : World) (n : ℕ) → Answers arguments b k n → Completes arguments b k n
completes arguments b k n (inl r) no_config none whole = only_memory [] r.fault b k n r.printed whole (λ other. no_config r.fault other r.cause)
completes arguments b k n (inr (s, settles, c)) no_config none whole = follow.completes (asked s).at (asked s).means (lawful s) s.warnings b k n c
    (λ fault other cause. none s fault settles other cause) whole

-- after a server's answer that is refused
pub closes_talk : (arguments : List Text) (b k : World) (n : ℕ) → Answers arguments b k n → ClosesTalk b k n
closes_talk arguments b k n (inl r) refusal = idle_talk b k n r.idle refusal [] r.fault r.printed
closes_talk arguments b k n (inr (s, settles, c)) refusal = ends_talk (asked s).at (asked s).means (lawful s) s.warnings b k n c refusal
