-- Why arguments or a configuration are refused.
use Rattle.std.specs.Prelude.{ℕ, Result, Ok, Err}
use Rattle.base_model.specs.Text.{Text}

-- why arguments or a configuration are refused, and what is done where they aren't
pub data Fault : Type 0 where
  command_missing : Fault
  command_unknown : (word : Text) → Fault
  option_unknown : (word : Text) → Fault
  option_repeated : (name : Text) → Fault
  option_value : (name : Text) → Fault
  option_missing : (name : Text) → Fault
  option_not_for : (name : Text) → Fault
  config_syntax : (line : ℕ) → Fault
  parameter_count : (given : ℕ) → Fault
  parameter_utf8 : Fault

infixl 10 ◌>>=◌
abbrev pub ◌>>=◌ : {A B : Type 0} → Result A Fault → (A → Result B Fault) → Result B Fault
(Ok x) >>= f = f x
(Err e) >>= f = Err e
