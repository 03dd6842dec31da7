-- What the statuses of refusals say, by layers.
use Rattle.std.proofs.Common.{◌≡◌, ◌≤◌, ◌≢◌, ◌⊎◌, ℕ, true, inl, inr, Result, Ok, Err, refl, ap, subst, arith}
use Rattle.cmd_types.specs.declared.stages.object.Object.{Object}
use Rattle.cmd_types.specs.declared.stages.object.Object.TheVariants as object
use Rattle.cmd_types.specs.declared.stages.fault.StageFault.{StageFault}
use Rattle.cmd_types.specs.declared.stages.fault.StageFault.TheVariants as stage
use Rattle.cmd_types.specs.declared.stages.outcome.Outcome.{Outcome}
use Rattle.cmd_types.specs.declared.stages.outcome.Outcome.TheVariants.{Finished, Absent, FindingsFound}
use Rattle.cmd_types.specs.DisksEffect.{to_end, turned_back}
use Rattle.cmd_types.specs.Reached.{fails_early, back_if}
use Rattle.cmd_types.specs.StagesTexts.{stage_status, object_status}
use Rattle.cmd_trait.specs.declared.fault.Fault.{Fault}
use Rattle.cmd_trait.specs.declared.fault.Fault.TheVariants as fault
use Rattle.cmd_trait.specs.Meaning.{Meaning, IsLawful, IsEarly}
use Rattle.cmd_trait.specs.Ends.{status, status_of, is_early, ending_of, reached_of}

pub stage_over : (e : StageFault) → 2 ≤ stage_status e
stage_over (stage.ConfigMissing a) = omega arith
stage_over (stage.ConfigLong a b) = omega arith
stage_over (stage.Held a) = omega arith
stage_over (stage.ControlMissing a) = omega arith
stage_over (stage.ControlShort a) = omega arith
stage_over stage.VersionText = omega arith
stage_over (stage.VersionUnsupported a) = omega arith
stage_over (stage.StanzaMissing a) = omega arith
stage_over (stage.InfoDamaged a b c) = omega arith

pub stage_apart : (e : StageFault) → stage_status e ≢ 65
stage_apart (stage.ConfigMissing a) = λ e. absurd (omega (arith, e))
stage_apart (stage.ConfigLong a b) = λ e. absurd (omega (arith, e))
stage_apart (stage.Held a) = λ e. absurd (omega (arith, e))
stage_apart (stage.ControlMissing a) = λ e. absurd (omega (arith, e))
stage_apart (stage.ControlShort a) = λ e. absurd (omega (arith, e))
stage_apart stage.VersionText = λ e. absurd (omega (arith, e))
stage_apart (stage.VersionUnsupported a) = λ e. absurd (omega (arith, e))
stage_apart (stage.StanzaMissing a) = λ e. absurd (omega (arith, e))
stage_apart (stage.InfoDamaged a b c) = λ e. absurd (omega (arith, e))

pub object_over : (e : Object) → 80 ≤ object_status e
object_over object.Repo = omega arith
object_over object.Spool = omega arith
object_over object.TheDataFolder = omega arith
object_over object.Server = omega arith
object_over object.Others = omega arith
object_over object.Clock = omega arith
object_over object.Locks = omega arith
object_over object.Config = omega arith
object_over object.Output = omega arith

pub late : (m : ℕ) → (73 ≤ m) → (m ≤ 99) → m ≢ 83 → ¬ IsEarly m
late m lo hi apart (inl a) = absurd (omega (arith, lo, a.1))
late m lo hi apart (inr (inl b)) = absurd (omega (arith, hi, b.0))
late m lo hi apart (inr (inr e)) = absurd (apart e)

early_object : (o : Object) → IsEarly (object_status o) → fails_early o ≡ true
early_object object.Server h = refl
early_object object.Repo h = absurd (late 80 (omega arith) (omega arith) (λ e. absurd (omega (arith, e))) h)
early_object object.Spool h = absurd (late 81 (omega arith) (omega arith) (λ e. absurd (omega (arith, e))) h)
early_object object.TheDataFolder h = absurd (late 82 (omega arith) (omega arith) (λ e. absurd (omega (arith, e))) h)
early_object object.Others h = absurd (late 88 (omega arith) (omega arith) (λ e. absurd (omega (arith, e))) h)
early_object object.Clock h = absurd (late 84 (omega arith) (omega arith) (λ e. absurd (omega (arith, e))) h)
early_object object.Locks h = absurd (late 85 (omega arith) (omega arith) (λ e. absurd (omega (arith, e))) h)
early_object object.Config h = absurd (late 86 (omega arith) (omega arith) (λ e. absurd (omega (arith, e))) h)
early_object object.Output h = absurd (late 87 (omega arith) (omega arith) (λ e. absurd (omega (arith, e))) h)

module _ {F : Type 0} (m : Meaning F) (laws : IsLawful m) where
  pub over : (e : Fault F) → 2 ≤ status_of m e
  over (fault.Stage e) = stage_over e
  over (fault.Own e) = laws.over e
  over (fault.Failed e) = omega (arith, object_over e)
  over fault.NoMemory = omega arith

  pub apart : (e : Fault F) → status_of m e ≢ 65
  apart (fault.Stage e) = stage_apart e
  apart (fault.Own e) = laws.not_found e
  apart (fault.Failed e) = λ is. absurd (omega (arith, object_over e, is))
  apart fault.NoMemory = λ is. absurd (omega (arith, is))

  pub zero_ends : (ended : Result Outcome (Fault F)) → status m (ending_of ended) ≡ 0 → reached_of m (ending_of ended) ≡ to_end
  zero_ends (Ok (Finished lines)) is = refl
  zero_ends (Ok (FindingsFound lines count)) is = refl
  zero_ends (Ok (Absent name)) is = absurd (omega (arith, is))
  zero_ends (Err e) is = absurd (omega (arith, is, over e))

  early_fault : (e : Fault F) → IsEarly (status_of m e) → is_early m e ≡ true
  early_fault (fault.Stage e) h = refl
  early_fault (fault.Own e) h = laws.early e h
  early_fault (fault.Failed o) h = early_object o h
  early_fault fault.NoMemory h = absurd (late 90 (omega arith) (omega arith) (λ e. absurd (omega (arith, e))) h)

  pub early_ends : (ended : Result Outcome (Fault F)) → IsEarly (status m (ending_of ended)) → reached_of m (ending_of ended) ≡ turned_back
  early_ends (Ok (Finished lines)) (inl a) = absurd (omega (arith, a.0))
  early_ends (Ok (Finished lines)) (inr (inl b)) = absurd (omega (arith, b.0))
  early_ends (Ok (Finished lines)) (inr (inr e)) = absurd (omega (arith, e))
  early_ends (Ok (FindingsFound lines count)) (inl a) = absurd (a.2 refl)
  early_ends (Ok (FindingsFound lines count)) (inr (inl b)) = absurd (omega (arith, b.0))
  early_ends (Ok (FindingsFound lines count)) (inr (inr e)) = absurd (omega (arith, e))
  early_ends (Ok (Absent name)) h = refl
  early_ends (Err e) h = ap back_if (early_fault e h)
