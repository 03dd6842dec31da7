-- What the members of a pair are given. Own.
use Rattle.std.specs.Prelude.{◌≡◌, [], ◌∷◌, false, List, Some, IfSome, IsSome}
use Rattle.base_devices.specs.Content.{Content}
use Rattle.base_devices.specs.Moments.{View, LeavesNoMore, is_unsynced}
use Rattle.base_devices.specs.Crash.{Crash, Ends, NowChanges, AllOf, FirstOf, SomeOf}
use Rattle.base_devices.specs.States.{DiskState}
use Rattle.base_model.specs.InfoText.{Section, info_text}
use Rattle.base_model.specs.Pair.{PairIs}
use Rattle.base_model.specs.Text.{Text}
use Rattle.base_model.specs.Names.{copy_of}
use Rattle.base_model.specs.Create.{member_writes}

-- both members have this text
abbrev pub AreBoth : Text → Text → Content → Type 0
AreBoth name text f = (f name ≡ Some text) × (f (copy_of name) ≡ Some text)

-- the disk holds both so, where what it holds is known
abbrev pub HoldsBoth : Text → Text → DiskState → Type 0
HoldsBoth name text disk = IfSome disk.view.now (AreBoth name text)

-- this holds where neither member is unsynced
abbrev pub IfResolved : Text → View → Type 0 → Type 0
IfResolved name old P = is_unsynced old name ≡ false → is_unsynced old (copy_of name) ≡ false → P

-- the one member is as before or has this text at each crash, if it wasn't unsynced
abbrev pub HealsMember : Text → Text → DiskState → DiskState → Type 0
HealsMember name text old new = is_unsynced old.view name ≡ false
    → Crash (SomeOf ((name, text) ∷ [])) old.view new.view

-- so does what the disk holds now
abbrev pub HealsMemberNow : Text → Text → DiskState → DiskState → Type 0
HealsMemberNow name text old new = NowChanges (SomeOf ((name, text) ∷ [])) old.view.now new.view.now

-- of the two writes any is made, at each crash
abbrev pub HealsBoth : Text → Text → View → View → Type 0
HealsBoth name text old new = IfResolved name old (Crash (SomeOf (member_writes name text)) old new)

-- so does what the disk holds now
abbrev pub HealsNow : Text → Text → View → View → Type 0
HealsNow name text old new = NowChanges (SomeOf (member_writes name text)) old.now new.now

-- of the two writes the first or both are made, at each crash
abbrev pub SavesBoth : Text → Text → View → View → Type 0
SavesBoth name text old new = IfResolved name old (Crash (FirstOf (member_writes name text)) old new)

-- so does what the disk holds now
abbrev pub SavesNow : Text → Text → View → View → Type 0
SavesNow name text old new = NowChanges (FirstOf (member_writes name text)) old.now new.now

-- what the disk holds now has both
abbrev pub EndsNow : Text → Text → View → View → Type 0
EndsNow name text old new = NowChanges (AllOf (member_writes name text)) old.now new.now

-- both writes are made at the end
abbrev pub EndsBoth : Text → Text → View → View → Type 0
EndsBoth name text old new = IfResolved name old (Ends (AllOf (member_writes name text)) old new)

-- only was read
abbrev pub OnlyRead : View → View → Type 0
OnlyRead old new = (new.now ≡ old.now) × LeavesNoMore old new

-- ---- the text of a value

-- A program's value has these sections.
module _ {X : Type 0} (sections : X → List Section) where
  -- both members are given the value's text at the end
  abbrev pub WritesValue : Text → X → DiskState → DiskState → Type 0
  WritesValue name value old new = EndsBoth name (info_text (sections value)) old.view new.view

  -- so does what the disk holds now
  abbrev pub WritesValueNow : Text → X → DiskState → DiskState → Type 0
  WritesValueNow name value old new = EndsNow name (info_text (sections value)) old.view new.view

-- ---- a pair that is read

-- A kind of text says which value a text is of.
module _ {V : Type 0} (IsTextOf : V → Text → Type 0) where
  -- where the pair had no value, only was read
  abbrev pub OnlyReadsWithout : Text → DiskState → DiskState → Type 0
  OnlyReadsWithout name old new = ((v : V) → IfSome old.view.now (λ f. ¬ PairIs IsTextOf f name v))
      → IsSome old.view.now → OnlyRead old.view new.view

  -- of the two writes of the value's text any is made at each crash, whatever value the pair had
  abbrev pub HealsToText : (V → Text) → Text → DiskState → DiskState → Type 0
  HealsToText text name old new = (v : V) → IfSome old.view.now (λ f. PairIs IsTextOf f name v)
      → HealsBoth name (text v) old.view new.view

  -- so does what the disk holds now
  abbrev pub HealsToTextNow : (V → Text) → Text → DiskState → DiskState → Type 0
  HealsToTextNow text name old new = (v : V) → IfSome old.view.now (λ f. PairIs IsTextOf f name v)
      → HealsNow name (text v) old.view new.view
