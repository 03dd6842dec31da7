-- Which sections are those of no value of a kind, and at which key.
use Rattle.std.specs.Prelude.{List}
use Rattle.base_model.specs.Text.{Text, In}
use Rattle.base_model.specs.InfoText.{Section}
use Rattle.repo_keys.specs.Agree.{AgreeAt}

-- the place of a key: its section and its name
abbrev pub At : Type 0
At = Text × Text

-- A kind of value has its rules and its sections, and says which keys a rule ties together.
module _ {V : Type 0} (IsOne : V → Type 0) (sections : V → List Section) (Tied : At → At → Type 0) where
  -- No value has at this key what the text has there, with what the text has at keys that are tied to it. A key may be
  -- one that the text lacks.
  pub record IsWrongAt (ss : List Section) (section key : Text) : Type 0 where
    pub others : List At
    pub tied : (p : At) → In p others → Tied (section, key) p
    pub wrong : (v : V) → IsOne v → ((p : At) → In p others → AgreeAt (sections v) ss p.0 p.1)
        → ¬ AgreeAt (sections v) ss section key
