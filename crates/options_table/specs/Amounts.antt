-- Whole numbers in decimal digits, sizes and times with their units.
use Rattle.std.specs.Prelude.{ℕ, ◌+◌, ◌-◌, ◌*◌, ◌&&◌, ◌||◌, ◌==◌, nat_le, Bool, true, false, not, [], ◌∷◌, length, take, drop, Option, Some, None, option_and_then, unwrap_or, if◌then◌else◌}
use Rattle.base_model.specs.Text.{Text}
use Rattle.std.specs.List.{position}
use Rattle.options_table.specs.declared.amount.Units.{Units}
use Rattle.options_table.specs.declared.amount.Units.TheVariants.{Plain, Sizes, Times}

-- whether the byte is a decimal digit
abbrev pub is_digit : ℕ → Bool
is_digit b = nat_le 48 b && nat_le b 57

-- where the digits at the front end
abbrev pub digits_end : Text → ℕ
digits_end t = unwrap_or (position (λ b. not (is_digit b)) t) (length t)

-- the number n, with these digits after it
abbrev pub value_from : ℕ → Text → ℕ
value_from n [] = n
value_from n (d ∷ ds) = value_from (n * 10 + (d - 48)) ds

-- the number, where it isn't above this one
abbrev pub no_more_than : ℕ → ℕ → Option ℕ
no_more_than most n = if nat_le n most then Some n else None

-- a letter in either case
abbrev pub is_letter : ℕ → ℕ → ℕ → Bool
is_letter upper lower b = (b == upper) || (b == lower)

-- nothing, B or iB
abbrev pub is_byte_end : Text → Bool
is_byte_end [] = true
is_byte_end (b ∷ []) = is_letter 66 98 b
is_byte_end (i ∷ b ∷ []) = is_letter 73 105 i && is_letter 66 98 b
is_byte_end (i ∷ b ∷ x ∷ xs) = false

-- K, M, G
abbrev pub power : ℕ → Option ℕ
power b = if is_letter 75 107 b then Some 1024 else if is_letter 77 109 b then Some 1048576 else if is_letter 71 103
    b then Some 1073741824 else None

-- a whole number has no unit
abbrev pub plain_unit : Text → Option ℕ
plain_unit [] = Some 1
plain_unit (b ∷ bs) = None

-- B, or K, M, G, each alone or with B or iB
abbrev pub size_unit : Text → Option ℕ
size_unit [] = Some 1
size_unit (b ∷ []) = if is_letter 66 98 b then Some 1 else power b
size_unit (b ∷ c ∷ bs) = if is_byte_end (c ∷ bs) then power b else None

-- s, m, h, d
abbrev pub time_unit : Text → Option ℕ
time_unit [] = Some 1
time_unit (b ∷ []) = if b == 115 then Some 1 else if b == 109 then Some 60 else if b == 104 then Some 3600 else if b
    == 100 then Some 86400 else None
time_unit (b ∷ c ∷ bs) = None

-- how much a unit represents
abbrev pub unit : Units → Text → Option ℕ
unit Plain t = plain_unit t
unit Sizes t = size_unit t
unit Times t = time_unit t

abbrev pub within : ℕ → ℕ → ℕ → Option ℕ
within least most n = if nat_le least n && nat_le n most then Some n else None

abbrev pub scaled : Text → ℕ → ℕ → ℕ → Option ℕ
scaled digits least most factor = if length digits == 0 then None else within least most (value_from 0 digits * factor)

-- the number that digits and a unit represent, within its bounds
unfoldable pub amount : Units → ℕ → ℕ → Text → Option ℕ
amount units least most t = option_and_then (scaled (take (digits_end t) t) least most)
    (unit units (drop (digits_end t) t))
