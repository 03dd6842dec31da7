-- After a server's answer that is refused the talk was ended.
use Rattle.std.proofs.Common.{◌≡◌, ◌≤◌, ◌⊎◌, ℕ, List, inl, inr, Result, Ok, Err, IfErr, refl, sym, subst, arith}
use Rattle.base_model.specs.Text.{Text}
use Rattle.cmd_setup.specs.Stages.{StageCause}
use Rattle.cmd_types.specs.declared.stages.fault.StageFault.{StageFault}
use Rattle.cmd_types.specs.declared.stages.fault.StageFault.TheVariants as stage
use Rattle.cmd_types.specs.declared.stages.object.Object.{Object}
use Rattle.cmd_types.specs.declared.stages.object.Object.TheVariants as object
use Rattle.cmd_types.specs.declared.stages.outcome.Outcome.{Outcome}
use Rattle.cmd_types.specs.declared.stages.outcome.Outcome.TheVariants.{Finished, Absent, FindingsFound}
use Rattle.cmd_types.specs.declared.stages.plan.Plan.{Plan}
use Rattle.cmd_types.specs.StagesTexts.{stage_status, object_status}
use Rattle.cmd_types.specs.World.{World, Failed}
use Rattle.cmd_trait.specs.declared.fault.Fault.{Fault}
use Rattle.cmd_trait.specs.declared.fault.Fault.TheVariants as fault
use Rattle.cmd_trait.specs.KnownWorld.{known_world}
use Rattle.cmd_trait.specs.Meaning.{Place, Meaning, IsLawful, IsServerRefusal, EndsTalk}
use Rattle.cmd_trait.specs.Ends.{status, ending_of}
use Rattle.cmd_trait.specs.CallEffect.{Carries, Cause, Closes}
use Rattle.cmd_trait.proofs.Follows.{known_as}

-- ---- which refusals have such a status

apart : {P : Type 0} (n : ℕ) → (n ≤ 46) ⊎ (72 ≤ n) → IsServerRefusal n → P
apart n (inl a) (inl b) = absurd (omega (arith, a, b.0))
apart n (inl a) (inr b) = absurd (omega (arith, a, b.0))
apart n (inr a) (inl b) = absurd (omega (arith, a, b.1))
apart n (inr a) (inr b) = absurd (omega (arith, a, b.1))

pub low : {P : Type 0} (n : ℕ) → (n ≤ 46) → IsServerRefusal n → P
low n le = apart n (inl le)

pub high : {P : Type 0} (n : ℕ) → (72 ≤ n) → IsServerRefusal n → P
high n le = apart n (inr le)

between : {P : Type 0} (n : ℕ) → 52 ≤ n → n ≤ 69 → IsServerRefusal n → P
between n lo hi (inl b) = absurd (omega (arith, lo, b.1))
between n lo hi (inr b) = absurd (omega (arith, hi, b.0))

-- no stage after the arguments has it
stage_apart : {P : Type 0} (plan : Plan) (stanza : Text) (b k : World) (e : StageFault) → IsServerRefusal (stage_status e) → StageCause plan stanza b k e → P
stage_apart plan stanza b k (stage.ConfigLong name limit) is (inl held) = absurd held
stage_apart plan stanza b k (stage.ConfigLong name limit) is (inr (inl found)) = absurd found.1
stage_apart plan stanza b k (stage.ConfigLong name limit) is (inr (inr (shows, inl found))) = absurd found.1
stage_apart plan stanza b k (stage.ConfigLong name limit) is (inr (inr (shows, inr (reads, has, none)))) = absurd none
stage_apart plan stanza b k (stage.ConfigMissing a) is cause = low 10 (omega arith) is
stage_apart plan stanza b k (stage.Held a) is cause = low 20 (omega arith) is
stage_apart plan stanza b k (stage.ControlMissing a) is cause = low 28 (omega arith) is
stage_apart plan stanza b k (stage.ControlShort a) is cause = low 25 (omega arith) is
stage_apart plan stanza b k stage.VersionText is cause = low 26 (omega arith) is
stage_apart plan stanza b k (stage.VersionUnsupported a) is cause = low 27 (omega arith) is
stage_apart plan stanza b k (stage.StanzaMissing a) is cause = low 21 (omega arith) is
stage_apart plan stanza b k (stage.InfoDamaged a b' c) is cause = low 22 (omega arith) is

pub object_apart : {P : Type 0} (o : Object) → IsServerRefusal (object_status o) → P
object_apart object.Repo = high 80 (omega arith)
object_apart object.Spool = high 81 (omega arith)
object_apart object.TheDataFolder = high 82 (omega arith)
object_apart object.Server = high 83 (omega arith)
object_apart object.Others = high 88 (omega arith)
object_apart object.Clock = high 84 (omega arith)
object_apart object.Locks = high 85 (omega arith)
object_apart object.Config = high 86 (omega arith)
object_apart object.Output = high 87 (omega arith)

-- ---- what was sent then

module _ {F : Type 0} (p : Place) (m : Meaning F) (laws : IsLawful m) (u : List Text) (b k : World) (n : ℕ) (c : Carries p m u b k n) (refusal : IsServerRefusal n) where
  abbrev Said : Type 0
  Said = EndsTalk (known_world b) (known_world k) (Failed b k) n

  cut : (x : ℕ) → (72 ≤ x) → n ≡ x → Said
  cut x le is = high x le (subst IsServerRefusal is refusal)

  at_end : (r : Result Outcome (Fault F)) → n ≡ status m (ending_of r) → IfErr r (Cause p m b k) → IfErr r (Closes p m b k) → Said
  at_end (Ok (Finished lines)) is cause closes = low 0 (omega arith) (subst IsServerRefusal is refusal)
  at_end (Ok (Absent name)) is cause closes = low 1 (omega arith) (subst IsServerRefusal is refusal)
  at_end (Ok (FindingsFound lines count)) is cause closes = between 65 (omega arith) (omega arith) (subst IsServerRefusal is refusal)
  at_end (Err (fault.Stage e)) is cause closes = stage_apart m.plan p.stanza b k e (subst IsServerRefusal is refusal) cause
  at_end (Err (fault.Own e)) is cause closes = subst (λ (x : ℕ). EndsTalk (known_world b) (known_world k) (Failed b k) x) (sym is) (laws.talk p (known_world b) (known_world k) (Failed b k) e (subst IsServerRefusal is refusal) c.did.spares.server closes)
  at_end (Err (fault.Failed o)) is cause closes = object_apart o (subst IsServerRefusal is refusal)
  at_end (Err fault.NoMemory) is cause closes = high 90 (omega arith) (subst IsServerRefusal is refusal)

  pub ends_talk : Said
  ends_talk = known_as p m laws u b k n c (λ is. at_end c.ended is c.did.cause c.did.spares.closed) (λ is rose. cut 87 (omega arith) is) (λ is. cut 90 (omega arith) is)
