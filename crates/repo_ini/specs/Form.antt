-- Which bytes have the form of an info text, and the first line at which others lose it.
use Rattle.std.specs.Prelude.{◌≡◌, ◌≢◌, ◌⊎◌, ◌==◌, ℕ, ◌-◌, List, ◌++◌, length, take}
use Rattle.std.specs.List.{slice_split}
use Rattle.sha1.specs.Sha1.{sha1}
use Rattle.base_text.specs.Sum.{IsSum, sum_text}
use Rattle.base_model.specs.InfoText.{Section, IsInfo, text_with, signed_text}

-- What newlines separate, with an empty piece after the last newline. Line n is the n-th piece.
abbrev pub pieces : List ℕ → List (List ℕ)
pieces bytes = slice_split (λ b. b == 10) bytes

-- an info text, except that the sum it states may be any
pub record HasForm (text : List ℕ) : Type 0 where
  pub sections : List Section
  pub known : List ℕ
  pub info : IsInfo sections
  pub is_sum : IsSum known
  pub spelled : text ≡ text_with (sum_text known) sections

-- some text of the form begins with these pieces
pub record CanBegin (ps : List (List ℕ)) : Type 0 where
  pub text : List ℕ
  pub form : HasForm text
  pub rest : List (List ℕ)
  pub begins : pieces text ≡ ps ++ rest

-- with this line no text of the form continues
abbrev pub IsRefused : List ℕ → ℕ → Type 0
IsRefused bytes line = CanBegin (take line (pieces bytes)) → ⊥

-- this line is the last, some text of the form continues after it, and the bytes are none themselves
abbrev pub EndsTooSoon : List ℕ → ℕ → Type 0
EndsTooSoon bytes line = (line ≡ length (pieces bytes)) × CanBegin (pieces bytes) × (HasForm bytes → ⊥)

-- The first line at which the bytes lose the form: all is valid before it.
pub record IsFirstFault (bytes : List ℕ) (line : ℕ) : Type 0 where
  pub before : CanBegin (take (line - 1) (pieces bytes))
  pub here : IsRefused bytes line ⊎ EndsTooSoon bytes line

-- the text has the form, and states a sum that isn't its own
pub record IsWrongSum (bytes known found : List ℕ) : Type 0 where
  pub sections : List Section
  pub info : IsInfo sections
  pub is_sum : IsSum known
  pub spelled : bytes ≡ text_with (sum_text known) sections
  pub own : found ≡ sha1 (signed_text sections)
  pub differ : known ≢ found

-- why bytes are no info text: their form, at this line, or their sum
pub data Fault : Type 0 where
  syntax : (line : ℕ) → Fault
  sum : (known found : List ℕ) → Fault

-- the fault is that of these bytes
abbrev pub IsFault : List ℕ → Fault → Type 0
IsFault bytes (syntax line) = IsFirstFault bytes line
IsFault bytes (sum known found) = IsWrongSum bytes known found
