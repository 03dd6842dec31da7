-- What a session's calls read of the bytes that are pending.
use Rattle.std.specs.Prelude.{ℕ, List, Option, Result, Ok}
use Rattle.base_model.specs.Text.{Text}
use Rattle.server_talk.specs.declared.session.phase.Phase.TheVariants.{Granted, Heading}
use Rattle.server_talk.specs.Fault.{Fault, ◌>>=◌}
use Rattle.server_talk.specs.Talk.{Talk, Taken, talk_at}

-- a part of what was read
abbrev pub part_of : {Y W : Type 0} → (Y → W) → Y × List ℕ → Result (W × List ℕ) Fault
part_of f p = Ok (f p.0, p.1)

-- a row, and how much was taken after it
pub record Asked : Type 0 where
  pub cells : List (Option Text)
  pub taken : Taken

abbrev pub asked : Talk → Asked
asked t = record { cells = t.row; taken = t.taken }

abbrev pub taken_of : Talk → Taken
taken_of t = t.taken

-- the answer to the startup message
unfoldable pub start_at : List ℕ → Result (Taken × List ℕ) Fault
start_at s = talk_at Granted 0 (record { bytes = 0; messages = 0 }) s >>= part_of taken_of

-- the answer to a query that has this many columns
unfoldable pub row_at : ℕ → Taken → List ℕ → Result (Asked × List ℕ) Fault
row_at columns taken s = talk_at Heading columns taken s >>= part_of asked

-- the talk that answers a query of this many columns
abbrev pub answer_at : ℕ → Taken → List ℕ → Result (Talk × List ℕ) Fault
answer_at columns taken s = talk_at Heading columns taken s
