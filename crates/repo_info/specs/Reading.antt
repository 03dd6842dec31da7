-- What is read of a text.
use Rattle.std.specs.Prelude.{◌≡◌, ◌≢◌, List, string_bytes, Result, Ok, Err, Vec}
use Rattle.std.specs.declared.alloc.Global.{Global}
use Rattle.base_model.specs.Text.{Text}
use Rattle.base_model.specs.InfoText.{Section, IsInfo, info_text}
use Rattle.repo_ini.specs.declared.part.Part.{Part}
use Rattle.repo_ini.specs.Form.{IsFault, syntax, sum}
use Rattle.repo_ini.specs.Parts.{sections_of}
use Rattle.repo_info.specs.declared.fault.MemberFault.{MemberFault}
use Rattle.repo_info.specs.declared.fault.MemberFault.TheVariants.{Absent, TooLong, Syntax, Sum, Form}

-- The text is that of some sections, and they break the rules of their kind at this key.
pub record IsFormFault (IsForm : List Section → Text → Text → Type 0) (bytes section key : Text) : Type 0 where
  pub sections : List Section
  pub info : IsInfo sections
  pub spelled : bytes ≡ info_text sections
  pub form : IsForm sections section key

-- A kind of text says which value a text is of, and which sections break its rules at a key.
module _ {V : Type 0} (IsTextOf : V → Text → Type 0) (IsForm : List Section → Text → Text → Type 0) where
  -- the fault is that of a text within the limit
  abbrev pub IsTextFault : Text → MemberFault → Type 0
  IsTextFault bytes Absent = ⊥
  IsTextFault bytes TooLong = ⊥
  IsTextFault bytes (Syntax line) = IsFault bytes (syntax line)
  IsTextFault bytes (Sum known found) = IsFault bytes (sum known.0 found.0)
  IsTextFault bytes (Form section key) = IsFormFault IsForm bytes (string_bytes section) (string_bytes key)

-- the text is that of the sections, or of none
abbrev pub SectionsAre : Text → Result (Vec Part Global) MemberFault → Type 0
SectionsAre text (Ok parts) = IsInfo (sections_of parts.items) × (text ≡ info_text (sections_of parts.items))
SectionsAre text (Err (Syntax line)) = IsFault text (syntax line)
    × ((ss : List Section) → IsInfo ss → text ≢ info_text ss)
SectionsAre text (Err (Sum known found)) = IsFault text (sum known.0 found.0)
    × ((ss : List Section) → IsInfo ss → text ≢ info_text ss)
SectionsAre text (Err fault) = ⊥

-- A kind of text, with the value that a program's value represents.
module _ {X V : Type 0} (IsTextOf : V → Text → Type 0) (IsForm : List Section → Text → Text → Type 0)
    (value : X → V) where
  -- the value of the text, or the fault for which it has none
  abbrev pub TextGives : Text → Result X MemberFault → Type 0
  TextGives bytes (Ok x) = IsTextOf (value x) bytes
  TextGives bytes (Err fault) = IsTextFault IsTextOf IsForm bytes fault × ((w : V) → ¬ IsTextOf w bytes)
