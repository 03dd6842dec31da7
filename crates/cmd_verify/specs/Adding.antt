-- Sets of findings, by what is true of them.
use Rattle.std.specs.Prelude.{◌≡◌, ◌⊎◌, ◌++◌, List}
use Rattle.base_model.specs.Text.{Text, In}
use Rattle.cmd_verify.specs.declared.findings.finding.Finding.{Finding}
use Rattle.cmd_verify.specs.What.{What, Shows}

-- They state exactly the names and the ways of which this is true, in any order. One may come twice.
pub record Are (P : Text → What → Type 0) (found : List Finding) : Type 0 where
  pub each : (x : Finding) → In x found → (name : Text) × (what : What) × P name what × Shows x name what
  pub all : (name : Text) (what : What) → P name what → (x : Finding) × In x found × Shows x name what

-- after the earlier ones are those that state exactly these
pub record Adds (P : Text → What → Type 0) (old new : List Finding) : Type 0 where
  pub added : List Finding
  pub is : new ≡ old ++ added
  pub are : Are P added

-- it is true of nothing
abbrev pub Never : Text → What → Type 0
Never name what = ⊥

-- After the earlier ones are some of which this is true: all own ones, and each other one or it is elsewhere.
pub record AddsMost (P Own Elsewhere : Text → What → Type 0) (old new : List Finding) : Type 0 where
  pub added : List Finding
  pub is : new ≡ old ++ added
  pub each : (x : Finding) → In x added → (name : Text) × (what : What) × P name what × Shows x name what
  pub own : (name : Text) (what : What) → Own name what → (x : Finding) × In x added × Shows x name what
  pub rest : (name : Text) (what : What) → P name what
      → ((x : Finding) × In x added × Shows x name what) ⊎ Elsewhere name what

-- it is true of one of the list
abbrev pub OfSome : {X : Type 0} → (X → Text → What → Type 0) → List X → Text → What → Type 0
OfSome {X} Q xs name what = (x : X) × In x xs × Q x name what
