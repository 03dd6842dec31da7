-- Why a pair has no value.
use Rattle.std.specs.Prelude.{◌<◌, ◌≤◌, ℕ, List, Option, None, Some, IfSome, length}
use Rattle.base_devices.specs.Content.{Content}
use Rattle.base_devices.specs.States.{DiskState, DiskFailed}
use Rattle.base_model.specs.Text.{Text}
use Rattle.base_model.specs.Names.{copy_of}
use Rattle.base_model.specs.Pair.{MemberIs, PairAbsent}
use Rattle.base_model.specs.InfoText.{Section}
use Rattle.repo_info.specs.declared.fault.MemberFault.{MemberFault}
use Rattle.repo_info.specs.declared.fault.MemberFault.TheVariants.{Absent, TooLong}
use Rattle.repo_info.specs.Reading.{IsTextFault}
use Rattle.repo_pair.specs.declared.fault.InfoFault.{InfoFault}
use Rattle.repo_pair.specs.declared.fault.InfoFault.TheVariants.{Missing, Damaged, Disk, NoMemory}

-- A kind of text says which value a text is of, and which sections break its rules at a key. This many bytes at most
-- are read.
module _ {V : Type 0} (IsTextOf : V → Text → Type 0) (IsForm : List Section → Text → Text → Type 0) (limit : ℕ) where
  -- the fault is that of what the member holds
  abbrev pub IsMemberFault : Option Text → MemberFault → Type 0
  IsMemberFault None Absent = Unit {0}
  IsMemberFault None fault = ⊥
  IsMemberFault (Some bytes) TooLong = limit < length bytes
  IsMemberFault (Some bytes) fault = (length bytes ≤ limit) × IsTextFault IsTextOf IsForm bytes fault

  -- the member has this fault, and is the text of no value
  pub record HasFault (f : Content) (name : Text) (fault : MemberFault) : Type 0 where
    pub is : IsMemberFault (f name) fault
    pub none : (v : V) → ¬ MemberIs IsTextOf f name v

  -- a member is there, and both have these faults
  pub record AreDamaged (f : Content) (name : Text) (of_main of_copy : MemberFault) : Type 0 where
    pub some : ¬ PairAbsent f name
    pub main : HasFault f name of_main
    pub copy : HasFault f (copy_of name) of_copy

  -- the fault is that of the pair, where what the disk holds is known
  abbrev pub PairCause : Text → Option Content → Type 0 → InfoFault → Type 0
  PairCause name now rose Missing = IfSome now (λ f. PairAbsent f name)
  PairCause name now rose (Damaged main copy) = IfSome now (λ f. AreDamaged f name main copy)
  PairCause name now rose Disk = rose
  PairCause name now rose NoMemory = Unit {0}

  -- it is that of the pair on this disk
  abbrev pub PairFails : Text → DiskState → DiskState → InfoFault → Type 0
  PairFails name old new fault = PairCause name old.view.now (DiskFailed old new) fault

-- what holds where the pair has no value
abbrev pub IfRefused : InfoFault → Type 0 → Type 0
IfRefused Missing P = P
IfRefused (Damaged main copy) P = P
IfRefused Disk P = Unit {0}
IfRefused NoMemory P = Unit {0}
