-- What is read of a member.
use Rattle.std.specs.Prelude.{◌≡◌, ◌≤◌, ◌<◌, ℕ, List, Option, None, Some, length, Result, Ok, Err, Vec, IfSome}
use Rattle.std.specs.declared.alloc.Global.{Global}
use Rattle.base_devices.specs.Content.{Content}
use Rattle.base_devices.specs.States.{DiskState}
use Rattle.base_model.specs.Text.{Text}
use Rattle.base_model.specs.InfoText.{Section}
use Rattle.base_model.specs.Pair.{MemberIs}
use Rattle.repo_info.specs.declared.fault.MemberFault.{MemberFault}
use Rattle.repo_info.specs.declared.fault.MemberFault.TheVariants.{Absent, TooLong}
use Rattle.repo_pair.specs.declared.fault.InfoFault.{InfoFault}
use Rattle.repo_pair.specs.declared.fault.InfoFault.TheVariants.{Missing, Damaged}
use Rattle.repo_pair.specs.Causes.{HasFault}

-- the bytes, or that there are none within the limit
abbrev pub BytesAre : ℕ → Option Text → Result (Vec ℕ Global) MemberFault → Type 0
BytesAre limit value (Ok bytes) = (value ≡ Some bytes.items) × (length bytes.items ≤ limit)
BytesAre limit None (Err Absent) = Unit {0}
BytesAre limit (Some bytes) (Err TooLong) = limit < length bytes
BytesAre limit value (Err fault) = ⊥

-- A kind of text, with the value that a program's value represents.
module _ {X V : Type 0} (IsTextOf : V → Text → Type 0) (IsForm : List Section → Text → Text → Type 0)
    (value : X → V) where
  -- the value of the member, or the fault for which it has none
  abbrev pub MemberGives : ℕ → Content → Text → Result X MemberFault → Type 0
  MemberGives limit f name (Ok x) = MemberIs IsTextOf f name (value x)
  MemberGives limit f name (Err fault) = HasFault IsTextOf IsForm limit f name fault

  -- the same for a member on this disk, where what it holds is known
  abbrev pub GivesOn : ℕ → DiskState → Text → Result X MemberFault → Type 0
  GivesOn limit disk name answer = IfSome disk.view.now (λ f. MemberGives limit f name answer)

-- the fault of a pair whose members have these
abbrev pub of_both : MemberFault → MemberFault → InfoFault
of_both Absent Absent = Missing
of_both main copy = Damaged main copy
