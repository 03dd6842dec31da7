-- What the statuses of refused arguments say.
use Rattle.std.proofs.Common.{◌≡◌, ◌≤◌, ◌≢◌, ◌∙◌, ◌⊎◌, ⊎_elim, ℕ, List, inl, inr, Option, refl, ap, subst, arith}
use Rattle.base_devices.specs.Content.{Content}
use Rattle.base_model.specs.Text.{Text}
use Rattle.options_read.specs.declared.usage.Usage.{Usage}
use Rattle.options_read.specs.declared.usage.Usage.TheVariants as usage
use Rattle.cmd_types.specs.declared.stages.fault.StageFault.{StageFault}
use Rattle.cmd_types.specs.declared.stages.fault.StageFault.TheVariants as stage
use Rattle.cmd_types.specs.declared.stages.object.Object.TheVariants.{Config, Output}
use Rattle.cmd_types.specs.StagesTexts.{stage_status}
use Rattle.cmd_types.specs.World.{World, Failed}
use Rattle.cmd_trait.specs.declared.fault.Fault.{Fault}
use Rattle.cmd_trait.specs.declared.fault.Fault.TheVariants as fault
use Rattle.cmd_trait.specs.CallEffect.{IsIdle}
use Rattle.cmd_trait.specs.Follows.{EndsWell}
use Rattle.cmd_trait.specs.KnownWorld.{known_world}
use Rattle.cmd_trait.specs.Meaning.{IsServerRefusal, EndsTalk}
use Rattle.cmd_trait.specs.Output.{IsPrinted, Whole, Cut, Starved, Wordless}
use Rattle.cmd_trait.proofs.Follows.{either_is}
use Rattle.cmd_trait.proofs.Statuses.{stage_over, stage_apart, object_over}
use Rattle.cmd_trait.proofs.Talks.{low, high, object_apart}
use Rattle.program_run.specs.Answers.{PrintsRefusal}
use Rattle.program_run.specs.Configuring.{ConfigCause}
use Rattle.program_run.specs.Refusals.{usage_status, refusal_status, refusal_lines}

usage_over : (e : Usage) → 2 ≤ usage_status e
usage_over usage.CommandMissing = omega arith
usage_over (usage.CommandUnknown a) = omega arith
usage_over (usage.OptionUnknown a) = omega arith
usage_over (usage.OptionRepeated a) = omega arith
usage_over (usage.OptionValue a) = omega arith
usage_over (usage.OptionMissing a) = omega arith
usage_over (usage.OptionNotFor a) = omega arith
usage_over (usage.ConfigSyntax a) = omega arith
usage_over (usage.ParameterCount a) = omega arith
usage_over usage.ParameterUtf8 = omega arith
usage_over usage.NoMemory = omega arith

usage_apart : (e : Usage) → usage_status e ≢ 65
usage_apart usage.CommandMissing = λ e. absurd (omega (arith, e))
usage_apart (usage.CommandUnknown a) = λ e. absurd (omega (arith, e))
usage_apart (usage.OptionUnknown a) = λ e. absurd (omega (arith, e))
usage_apart (usage.OptionRepeated a) = λ e. absurd (omega (arith, e))
usage_apart (usage.OptionValue a) = λ e. absurd (omega (arith, e))
usage_apart (usage.OptionMissing a) = λ e. absurd (omega (arith, e))
usage_apart (usage.OptionNotFor a) = λ e. absurd (omega (arith, e))
usage_apart (usage.ConfigSyntax a) = λ e. absurd (omega (arith, e))
usage_apart (usage.ParameterCount a) = λ e. absurd (omega (arith, e))
usage_apart usage.ParameterUtf8 = λ e. absurd (omega (arith, e))
usage_apart usage.NoMemory = λ e. absurd (omega (arith, e))

-- it is one of a refusal, and none of a command that succeeded
refusal_ill : (e : Fault Usage) → ¬ EndsWell (refusal_status e)
refusal_ill (fault.Stage e) (inl le) = absurd (omega (arith, le, stage_over e))
refusal_ill (fault.Stage e) (inr is) = absurd (stage_apart e is)
refusal_ill (fault.Own e) (inl le) = absurd (omega (arith, le, usage_over e))
refusal_ill (fault.Own e) (inr is) = absurd (usage_apart e is)
refusal_ill (fault.Failed o) (inl le) = absurd (omega (arith, le, object_over o))
refusal_ill (fault.Failed o) (inr is) = absurd (omega (arith, is, object_over o))
refusal_ill fault.NoMemory (inl le) = absurd (omega (arith, le))
refusal_ill fault.NoMemory (inr is) = absurd (omega (arith, is))

-- the status is that of the lines, or of an output or a memory that failed
pub printed_as : {P : Type 0} (old : Option Text) (lines : Text) (code : ℕ) (new : Option Text) (rose : Type 0) (n : ℕ) → IsPrinted old lines code new rose n → (n ≡ code → P) → (n ≡ 87 → rose → P) → (n ≡ 90 → P) → P
printed_as {P} old lines code new rose n h whole cut starved = go n refl h
  where
    go : (x : ℕ) → n ≡ x → IsPrinted old lines code new rose x → P
    go x is (Whole result same wrote) = whole (is ∙ same)
    go _ is (Cut r prefix) = cut is r
    go _ is (Starved some which prefix) = starved is
    go _ is (Wordless r prefix) = cut is r

module _ (unknown : List Text) (e : Fault Usage) (b k : World) (n : ℕ) (h : PrintsRefusal unknown e b k n) where
  by_status : {P : Type 0} → (n ≡ refusal_status e → P) → (n ≡ 87 → Failed b k Output → P) → (n ≡ 90 → P) → P
  by_status = printed_as b.out.written (refusal_lines unknown e) (refusal_status e) k.out.written (Failed b k Output) n h

  -- it is reported as no success
  pub never_well : ¬ EndsWell n
  never_well well = by_status (λ is. refusal_ill e (subst EndsWell is well)) (λ is rose. ill 87 (omega arith) (omega arith) (subst EndsWell is well)) (λ is. ill 90 (omega arith) (omega arith) (subst EndsWell is well))
    where
      ill : (m : ℕ) → 66 ≤ m → 1 ≤ m → ¬ EndsWell m
      ill m over some (inl le) = absurd (omega (arith, over, le))
      ill m over some (inr is) = absurd (omega (arith, over, is))

  pub only_memory : ¬ Failed b k Output → (refusal_status e ≢ 90 → ⊥) → EndsWell n ⊎ (n ≡ 90)
  only_memory whole never = by_status (λ is. ⊎_elim (λ (m : refusal_status e ≡ 90). inr (is ∙ m)) (λ other. absurd (never other)) (either_is (refusal_status e) 90)) (λ is rose. absurd (whole rose)) (λ is. inr is)

-- ---- a talk

usage_talks : {P : Type 0} (u : Usage) → IsServerRefusal (usage_status u) → P
usage_talks usage.CommandMissing = low 2 (omega arith)
usage_talks (usage.CommandUnknown a) = low 3 (omega arith)
usage_talks (usage.OptionUnknown a) = low 4 (omega arith)
usage_talks (usage.OptionRepeated a) = low 5 (omega arith)
usage_talks (usage.OptionValue a) = low 6 (omega arith)
usage_talks (usage.OptionMissing a) = low 7 (omega arith)
usage_talks (usage.OptionNotFor a) = low 8 (omega arith)
usage_talks (usage.ConfigSyntax a) = low 9 (omega arith)
usage_talks (usage.ParameterCount a) = low 11 (omega arith)
usage_talks usage.ParameterUtf8 = low 13 (omega arith)
usage_talks usage.NoMemory = high 90 (omega arith)

stage_long : (e : StageFault) → IsServerRefusal (stage_status e) → stage_status e ≡ 70
stage_long (stage.ConfigMissing a) = low 10 (omega arith)
stage_long (stage.ConfigLong a b) = λ is. refl
stage_long (stage.Held a) = low 20 (omega arith)
stage_long (stage.ControlMissing a) = low 28 (omega arith)
stage_long (stage.ControlShort a) = low 25 (omega arith)
stage_long stage.VersionText = low 26 (omega arith)
stage_long (stage.VersionUnsupported a) = low 27 (omega arith)
stage_long (stage.StanzaMissing a) = low 21 (omega arith)
stage_long (stage.InfoDamaged a b c) = low 22 (omega arith)

module _ (b k : World) (n : ℕ) (idle : IsIdle b k) (refusal : IsServerRefusal n) where
  abbrev Said : Type 0
  Said = EndsTalk (known_world b) (known_world k) (Failed b k) n

  cut : (m : ℕ) → (72 ≤ m) → n ≡ m → Said
  cut m le is = high m le (subst IsServerRefusal is refusal)

  at_fault : (e : Fault Usage) → n ≡ refusal_status e → Said
  at_fault (fault.Own u) is = usage_talks u (subst IsServerRefusal is refusal)
  at_fault (fault.Stage e) is = inr (inr (omega (arith, is, stage_long e (subst IsServerRefusal is refusal)), ap (λ w. w.sent) idle.server))
  at_fault (fault.Failed o) is = object_apart o (subst IsServerRefusal is refusal)
  at_fault fault.NoMemory is = high 90 (omega arith) (subst IsServerRefusal is refusal)

  -- nothing was sent where nothing was done
  pub idle_talk : (unknown : List Text) (e : Fault Usage) → PrintsRefusal unknown e b k n → Said
  idle_talk unknown e h = by_status unknown e b k n h (λ is. at_fault e is) (λ is rose. cut 87 (omega arith) is) (λ is. cut 90 (omega arith) is)
