-- The talk with a server, message by message (PostgreSQL manual, "Start-up" and "Simple Query").
use Rattle.std.specs.Prelude.{ℕ, suc, zero, ◌+◌, ◌-◌, ◌==◌, nat_lt, Bool, true, false, List, [], length, take, Option, Result, Ok, Err, if◌then◌else◌}
use Rattle.std.specs.Int.{w32, from_be_bytes}
use Rattle.base_model.specs.Text.{Text}
use Rattle.server_talk.specs.declared.session.phase.Phase.{Phase}
use Rattle.server_talk.specs.declared.session.phase.Phase.TheVariants.{Granted, Settled, Heading, Row, Complete, Ready, Over}
use Rattle.server_talk.specs.Fault.{Fault, form, too_many, said, auth, ◌>>=◌}
use Rattle.server_talk.specs.Message.{Message, is_aside, message_at}
use Rattle.server_talk.specs.Fields.{is_one_text, field}
use Rattle.server_talk.specs.Cells.{cells}

-- how much was taken since the start: bytes and messages
pub record Taken : Type 0 where
  pub bytes : ℕ
  pub messages : ℕ

-- what was received: what is due, the row and the place of its end, and how much was taken
pub record Talk : Type 0 where
  pub phase : Phase
  pub row : List (Option Text)
  pub row_end : ℕ
  pub taken : Taken

-- after a message with this body
abbrev pub following : Taken → List ℕ → Taken
following t body = record { bytes = t.bytes + 5 + length body; messages = t.messages + 1 }

-- the talk continues
abbrev pub goes_on : Talk → Phase → Taken → Talk
goes_on t phase taken = record { phase = phase; row = t.row; row_end = t.row_end; taken = taken }

-- code 0 asks for no password, and is alone; a shorter body was refused by its length
abbrev pub granted : Talk → List ℕ → Result Taken Fault
granted t body = if nat_lt (length body) 4 then Err (form (t.taken.bytes + 1)) else if from_be_bytes w32 (take 4 body)
    == 0 then (if length body == 4 then Ok (following t.taken body) else Err (form (t.taken.bytes + 9))) else Err
    (auth (from_be_bytes w32 (take 4 body)))

abbrev pub receive_granted : Talk → List ℕ → Result Talk Fault
receive_granted t body = granted t body >>= λ taken. Ok (goes_on t Settled taken)

abbrev pub receive_due : ℕ → Phase → Talk → Message → Result Talk Fault
receive_due columns Granted t m = receive_granted t m.body
receive_due columns Settled t m = Ok (goes_on t Over (following t.taken m.body))
receive_due columns Heading t m = Ok (goes_on t Row (following t.taken m.body))
receive_due columns Row t m = cells columns (t.taken.bytes + 5) m.body >>= λ row. Ok
    (record {
      phase = Complete;
      row = row;
      row_end = t.taken.bytes + 5 + length m.body;
      taken = following t.taken m.body;
    })
receive_due columns Complete t m = if is_one_text m.body then Ok (goes_on t Ready (following t.taken m.body)) else Err
    (form (t.taken.bytes + 5))
receive_due columns Ready t m = Ok (goes_on t Over (following t.taken m.body))
receive_due columns Over t m = Err (form t.taken.bytes)

-- one message more: E ends the talk with its code (C) and its text (M)
abbrev pub receive_reply : ℕ → Talk → Message → Result Talk Fault
receive_reply columns t m = if is_aside t.phase m.kind then Ok (goes_on t t.phase (following t.taken m.body)) else if
    m.kind
    == 69 then Err (said (field 67 m.body) (field 77 m.body)) else receive_due columns t.phase t m

abbrev pub is_over : Phase → Bool
is_over Granted = false
is_over Settled = false
is_over Heading = false
is_over Row = false
is_over Complete = false
is_over Ready = false
is_over Over = true

-- the talk of at most this many messages, and what comes after it
unfoldable pub run : ℕ → ℕ → Talk → List ℕ → Result (Talk × List ℕ) Fault
run zero columns t s = if is_over t.phase then Ok (t, s) else Err (too_many 1000000)
run (suc n) columns t s = if is_over t.phase then Ok
    (t, s) else (message_at t.phase t.taken.bytes s >>= λ m. receive_reply columns t m.0 >>= λ u. run n columns u m.1)

abbrev pub talk_from : Phase → Taken → Talk
talk_from phase taken = record { phase = phase; row = []; row_end = 0; taken = taken }

-- a talk that begins so; all talks of a session have 1,000,000 messages
abbrev pub talk_at : Phase → ℕ → Taken → List ℕ → Result (Talk × List ℕ) Fault
talk_at phase columns taken s = run (1000000 - taken.messages) columns (talk_from phase taken) s
