-- What is seen of the members of a pair.
use Rattle.std.specs.Prelude.{◌≡◌, Option, Some, None}
use Rattle.base_devices.specs.Content.{Value, Content}
use Rattle.base_model.specs.Text.{Text}
use Rattle.base_model.specs.Pair.{PairIs}
use Rattle.cmd_verify.specs.declared.findings.pairs.Member.{Member}
use Rattle.cmd_verify.specs.declared.findings.pairs.Member.TheVariants.{Absent, Bad, Good}

-- this holds of the value of a member that has one
abbrev pub IfGood : {X : Type 0} → (X → Type 0) → Member X → Type 0
IfGood P Absent = Unit {0}
IfGood P Bad = Unit {0}
IfGood P (Good bytes x) = P x

module _ {X V : Type 0} (IsTextOf : V → Text → Type 0) (value : X → V) where
  -- so the member is
  abbrev pub MemberSo : Value → Member X → Type 0
  MemberSo None Absent = Unit {0}
  MemberSo (Some bytes) Bad = (v : V) → ¬ IsTextOf v bytes
  MemberSo (Some bytes) (Good read x) = (read.items ≡ bytes) × IsTextOf (value x) bytes
  MemberSo v member = ⊥

  -- the value of the pair, or that it has none
  abbrev pub ValueSo : Content → Text → Option X → Type 0
  ValueSo f main None = (v : V) → ¬ PairIs IsTextOf f main v
  ValueSo f main (Some x) = PairIs IsTextOf f main (value x)
