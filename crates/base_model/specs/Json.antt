-- Which JSON values are in an info text.
use Rattle.std.specs.Prelude.{◌≡◌, ◌==◌, All, ℕ, false, List, Some, IsUtf8}
use Rattle.serde_json.specs.Data.{Data}
use Rattle.serde_json.specs.Read.{read}
use Rattle.serde_json.specs.Written.{compact_text, has_float}

-- no newline
abbrev pub IsOneLine : List ℕ → Type 0
IsOneLine xs = All (λ b. (b == 10) ≡ false) xs

-- the value is what its own text reads as, which has no float
pub record IsValue (d : Data) : Type 0 where
  pub utf8 : IsUtf8 (compact_text d)
  pub no_float : has_float d ≡ false
  pub one_line : IsOneLine (compact_text d)
  pub reads : read (compact_text d) ≡ Some d
