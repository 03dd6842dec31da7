-- Targets of recovery other than a moment (PostgreSQL manual, "Recovery Target").
use Rattle.std.specs.Prelude.{◌==◌, nat_le, nat_lt, ◌&&◌, ◌||◌, not, Bool, length, decimal, bytes_eq}
use Rattle.std.specs.List.{list_any}
use Rattle.std.specs.Str.Parse.{digits_value}
use Rattle.base_model.specs.Text.{Text}

-- a transaction's number, in decimal without zeros in front
abbrev pub is_transaction : Text → Bool
is_transaction text = bytes_eq text (decimal (digits_value 10 text))
    && nat_le (digits_value 10 text) 4294967295

-- the name of a restore point: 1 to 63 bytes without control characters
abbrev pub is_restore_point : Text → Bool
is_restore_point text = nat_le 1 (length text) && nat_le (length text) 63
    && not (list_any (λ c. nat_lt c 32 || c == 127) text)
