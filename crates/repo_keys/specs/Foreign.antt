-- Sections with other names than a kind of text has.
use Rattle.std.specs.Prelude.{◌≡◌, List, map}
use Rattle.std.specs.Borrow.{Bor}
use Rattle.serde_json.specs.Data.{Data}
use Rattle.base_model.specs.Text.{Text, In}
use Rattle.base_model.specs.InfoText.{Section}

-- the texts of the names
abbrev pub names_of : List (Bor Text) → List Text
names_of names = map (λ n. n.now) names

-- each of these sections has one of the names
abbrev pub AreNamed : List Text → List Section → Type 0
AreNamed names ss = (s : Section) → In s ss → In s.name names

-- the section is one of these, and has none of the names
abbrev pub HasOtherName : List Text → List Section → Section → Type 0
HasOtherName names ss s = In s ss × ¬ In s.name names

-- the key is in such a section
pub record IsForeignKey (names : List Text) (ss : List Section) (section key : Text) : Type 0 where
  pub at : Section
  pub foreign : HasOtherName names ss at
  pub named : section ≡ at.name
  pub value : Data
  pub holds : In (key, value) at.keys
