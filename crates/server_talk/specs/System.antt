-- A session that asks for the server's system alone (PostgreSQL manual, "Message Flow").
use Rattle.std.specs.Prelude.{◌≡◌, ℕ, List, ◌++◌, Result, Ok, Err}
use Rattle.base_model.specs.Text.{Text}
use Rattle.server_talk.specs.Fault.{Fault}
use Rattle.server_talk.specs.Talk.{Talk, Taken}
use Rattle.server_talk.specs.Session.{start_at, answer_at}
use Rattle.server_talk.specs.Rows.{SystemOutcome, system_query}
use Rattle.server_talk.specs.Sends.{startup_of, query_of, closing}

-- the first message, the query of the system, and the end
abbrev pub questions : Text → Text → List ℕ
questions user database = startup_of user database ++ (query_of system_query ++ closing)

-- the talk that answers it, after a session that took this much
abbrev pub system_at : Taken → List ℕ → Result (Talk × List ℕ) Fault
system_at taken s = answer_at 2 taken s

-- What all the bytes of a server report, where this system is kept, whatever the pieces in which they come: the size of
-- its segments, or the first fault.
pub data Shows (kept : ℕ) (bytes : List ℕ) : Result ℕ Fault → Type 0 where
  -- it grants no session
  unopened : (fault : Fault) → start_at bytes ≡ Err fault → Shows kept bytes (Err fault)
  -- what follows is no row
  unanswered : (taken : Taken) (rest : List ℕ) (fault : Fault) → start_at bytes ≡ Ok (taken, rest)
      → system_at taken rest ≡ Err fault → Shows kept bytes (Err fault)
  -- a row
  answered : (taken : Taken) (rest following : List ℕ) (talk : Talk) (outcome : Result ℕ Fault)
      → start_at bytes ≡ Ok (taken, rest) → system_at taken rest ≡ Ok (talk, following) → SystemOutcome kept talk
      outcome
      → Shows kept bytes outcome
