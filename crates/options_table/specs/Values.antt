-- What a text represents, as a value of a kind.
use Rattle.std.specs.Prelude.{ℕ, ◌&&◌, ◌||◌, ◌==◌, nat_le, nat_lt, Bool, true, false, not, List, [], ◌∷◌, length, codes, bytes_eq, Option, Some, None, option_map, if◌then◌else◌}
use Rattle.base_model.specs.Text.{Text}
use Rattle.base_model.specs.StanzaName.{is_stanza}
use Rattle.std.specs.List.{list_any, list_all, position_or_len, before_first, after_first}
use Rattle.std.specs.Option.{option_map_or}
use Rattle.options_table.specs.declared.amount.Units.TheVariants.{Plain, Sizes, Times}
use Rattle.options_table.specs.Amounts.{is_digit, amount}
use Rattle.options_table.specs.Table as table
use Rattle.options_table.specs.Table.{OptionKind}

-- none, as by `--no-config`; y or n; a whole number; a size in bytes or a time in seconds; a text
pub data Value : Type 0 where
  absent : Value
  flag : Bool → Value
  number : ℕ → Value
  amount_of : ℕ → Value
  text : Text → Value

-- 1 to 1,024 bytes
abbrev pub is_text : Text → Bool
is_text t = nat_lt 0 (length t) && nat_le (length t) 1024

abbrev pub flag_of : Text → Option Value
flag_of t = if bytes_eq t (codes "y") then Some (flag true) else if bytes_eq t (codes "n") then Some
    (flag false) else None

abbrev pub text_where : Bool → Text → Option Value
text_where holds t = if holds then Some (text t) else None

abbrev pub is_word : List Text → Text → Bool
is_word allowed t = list_any (λ w. bytes_eq w t) allowed

-- the two sides of the first `=`
abbrev pub split_equals : Text → Option (Text × Text)
split_equals t = if nat_lt (position_or_len (λ b. b == 61) t) (length t) then Some
    (before_first (λ b. b == 61) t, after_first (λ b. b == 61) t) else None

-- the settings of a recovery's end, which have options of their own (PostgreSQL manual, "Recovery Target")
abbrev pub target_settings : List Text
target_settings = codes "recovery_target" ∷ codes "recovery_target_action" ∷ codes "recovery_target_inclusive"
    ∷ codes "recovery_target_lsn" ∷ codes "recovery_target_name" ∷ codes "recovery_target_time"
    ∷ codes "recovery_target_timeline" ∷ codes "recovery_target_xid" ∷ []

-- a lower-case letter, a digit or `_`
abbrev pub is_setting_byte : ℕ → Bool
is_setting_byte b = (nat_le 97 b && nat_le b 122) || is_digit b || (b == 95)

-- the name of a setting, none of those above
abbrev pub is_setting_name : Text → Bool
is_setting_name t = nat_lt 0 (length t) && list_all is_setting_byte t && not (is_word target_settings t)

-- no control byte
abbrev pub is_shown : ℕ → Bool
is_shown b = nat_le 32 b && not (b == 127)

-- a name, `=` and a value, at most 1,024 bytes in all
abbrev pub is_setting : Text → Bool
is_setting t = nat_le (length t) 1024
    && option_map_or (λ s. is_setting_name s.0 && list_all is_shown s.1) (split_equals t) false

-- the value, where the text is one of this kind
abbrev pub value_of : OptionKind → Text → Option Value
value_of table.stanza t = text_where (is_stanza t) t
value_of table.path t = text_where (is_text t) t
value_of table.text t = text_where (is_text t) t
value_of table.anything t = Some absent
value_of table.file t = if length t == 0 then Some absent else text_where (is_text t) t
value_of (table.number least most) t = option_map number (amount Plain least most t)
value_of (table.size least most) t = option_map amount_of (amount Sizes least most t)
value_of (table.time least most) t = option_map amount_of (amount Times least most t)
value_of table.flag t = flag_of t
value_of (table.words allowed) t = text_where (is_word allowed t) t
value_of (table.words_or allowed least most) t = if is_word allowed t then Some (text t) else option_map number
    (amount Plain least most t)
value_of table.setting t = text_where (is_setting t) t
