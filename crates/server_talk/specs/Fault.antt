-- Why a talk ends before its end (PostgreSQL manual, "Message Flow").
use Rattle.std.specs.Prelude.{ℕ, Result, Ok, Err}
use Rattle.base_model.specs.Text.{Text}

-- a place is counted in bytes from the server's first
pub data Fault : Type 0 where
  ended : (at : ℕ) → Fault
  form : (at : ℕ) → Fault
  too_long : (length : ℕ) → Fault
  too_many : (limit : ℕ) → Fault
  said : (code text : Text) → Fault
  auth : (code : ℕ) → Fault
  mismatch : (kept found : ℕ) → Fault

-- one reading after another: the first fault is reported
infixl 10 ◌>>=◌
abbrev pub ◌>>=◌ : {A B : Type 0} → Result A Fault → (A → Result B Fault) → Result B Fault
(Ok x) >>= f = f x
(Err e) >>= f = Err e
