-- A value that is kept in two members, the main one and its copy (pgBackRest user guide, "Create the Stanza").
use Rattle.std.specs.Prelude.{◌≡◌, ◌⊎◌, Some, None}
use Rattle.base_devices.specs.Content.{Content}
use Rattle.base_model.specs.Text.{Text}
use Rattle.base_model.specs.Names.{copy_of}

-- A kind of text says which value a text is of.
module _ {V : Type 0} (IsTextOf : V → Text → Type 0) where
  -- the member is there and is a text of this value
  abbrev pub MemberIs : Content → Text → V → Type 0
  MemberIs f name v = (bytes : Text) × (f name ≡ Some bytes) × IsTextOf v bytes

  -- the main member has the value; or that is no text of the kind, and the copy has it
  abbrev pub PairIs : Content → Text → V → Type 0
  PairIs f name v = MemberIs f name v ⊎ (((w : V) → ¬ MemberIs f name w) × MemberIs f (copy_of name) v)

-- neither member is there
abbrev pub PairAbsent : Content → Text → Type 0
PairAbsent f name = (f name ≡ None) × (f (copy_of name) ≡ None)
