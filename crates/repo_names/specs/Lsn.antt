-- The texts of a position in the log (PostgreSQL manual, "pg_lsn Type").
use Rattle.std.specs.Prelude.{◌≡◌, ℕ, ◌+◌, ◌*◌, ◌^◌, ◌≤◌, ◌∷◌, ◌++◌, length}
use Rattle.std.specs.Str.Parse.{IsNumeral, digits_value}
use Rattle.base_model.specs.Text.{Text}

-- one to eight hexadecimal digits, of either case
abbrev pub IsHalf : Text → Type 0
IsHalf digits = IsNumeral 16 digits × (length digits ≤ 8)

-- two such numbers with a slash between: the upper and the lower 32 bits
pub record IsLsn (text : Text) (at : ℕ) : Type 0 where
  pub high : Text
  pub low : Text
  pub is : text ≡ high ++ 47 ∷ low
  pub high_digits : IsHalf high
  pub low_digits : IsHalf low
  pub value : at ≡ digits_value 16 high * 2 ^ 32 + digits_value 16 low
