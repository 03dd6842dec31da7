-- The name of a stanza (pgBackRest configuration reference, "Stanza Option").
use Rattle.std.specs.Prelude.{ℕ, ◌&&◌, ◌||◌, ◌==◌, nat_le, nat_lt, Bool, false, not, [], ◌∷◌, length}
use Rattle.std.specs.List.{list_all}
use Rattle.base_model.specs.Text.{Text}

-- a letter, a digit, `_` or `-`
abbrev pub is_stanza_byte : ℕ → Bool
is_stanza_byte b = (nat_le 48 b && nat_le b 57) || (nat_le 65 b && nat_le b 90) || (nat_le 97 b && nat_le b 122)
    || (b == 95) || (b == 45)

abbrev pub begins_with_dash : Text → Bool
begins_with_dash [] = false
begins_with_dash (b ∷ bs) = b == 45

-- 1 to 64 of them, and no `-` in front
abbrev pub is_stanza : Text → Bool
is_stanza t = nat_lt 0 (length t) && nat_le (length t) 64 && list_all is_stanza_byte t && not (begins_with_dash t)
