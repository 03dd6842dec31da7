-- What a session's calls read and send, from one value of the connection to a later one.
use Rattle.std.specs.Prelude.{◌≡◌, ℕ, List, ◌++◌, drop, Option, option_map, Result, String, Vec}
use Rattle.std.specs.declared.alloc.Global.{Global}
use Rattle.base_devices.specs.States.{ConnectionState}
use Rattle.base_model.specs.declared.wal.SegSize.{SegSize}
use Rattle.server_talk.specs.declared.session.fault.ServerFault.{ServerFault}
use Rattle.server_talk.specs.declared.session.known.Started.{Started}
use Rattle.server_talk.specs.declared.session.known.Stopped.{Stopped}
use Rattle.server_talk.specs.declared.session.message.Message.{Message}
use Rattle.server_talk.specs.declared.session.phase.Phase.{Phase}
use Rattle.server_talk.specs.declared.session.phase.Phase.TheVariants.{Heading}
use Rattle.server_talk.specs.declared.session.session.Session.{Session}
use Rattle.server_talk.specs.declared.session.talk.Talk.{Talk}
use Rattle.server_talk.specs.Message.{take_at, message_of, message_at}
use Rattle.server_talk.specs.Talk.{run, talk_at}
use Rattle.server_talk.specs.Session.{start_at, row_at}
use Rattle.server_talk.specs.Rows.{Answers, SystemOutcome, StartOutcome, StopOutcome}
use Rattle.server_talk.specs.Sends.{closing}
use Rattle.server_talk.specs.Views.{cells_view, message_view, session_view, stopped_view, talk_view}
use Rattle.server_talk.specs.Reads.{IsOutside, Reads, Sends}

-- A connection has a state.
module _ {V : Type 0} (state : V → ConnectionState) where
  -- ---- what is sent

  -- these bytes
  abbrev pub SendsAll : List ℕ → V → V → Type 0
  SendsAll bytes old new = (state new).sent ≡ option_map (λ s. s ++ bytes) (state old).sent

  -- these bytes, or the connection failed
  abbrev pub SendsOrFails : List ℕ → V → V → Type 0
  SendsOrFails bytes old new = Sends (state old).faults (state new).faults (state old).sent (state new).sent bytes

  -- for a fault of the server's the end after these bytes, or the connection failed
  abbrev pub IsParted : List ℕ → V → V → ServerFault → Type 0
  IsParted bytes old new e = ¬ IsOutside e → SendsOrFails (bytes ++ closing) old new

  -- ---- what is read of the bytes that were pending

  -- this many of them, fewer only where no more come
  abbrev pub ReadsBytes : ℕ → Result (Vec ℕ Global) ServerFault → V → V → Type 0
  ReadsBytes count result old new = Reads (λ v. v.items) result (state old).pending (state new).pending (take_at count)

  -- those after this many are pending
  abbrev pub PassesBytes : ℕ → V → V → Type 0
  PassesBytes count old new = (state new).pending ≡ option_map (drop count) (state old).pending

  -- a message of this kind and with this many bytes, or in this phase, at this place
  abbrev pub ReadsBody : ℕ → ℕ → ℕ → Result Message ServerFault → V → V → Type 0
  ReadsBody at kind count result old new =
      Reads message_view result (state old).pending (state new).pending (message_of at (kind, count))

  abbrev pub ReadsMessage : Phase → ℕ → Result Message ServerFault → V → V → Type 0
  ReadsMessage phase at result old new =
      Reads message_view result (state old).pending (state new).pending (message_at phase at)

  -- a talk of at most this many messages
  abbrev pub ReadsRun : ℕ → ℕ → Talk → Result Talk ServerFault → V → V → Type 0
  ReadsRun limit columns start result old new =
      Reads talk_view result (state old).pending (state new).pending (run limit columns (talk_view start))

  -- a talk from this phase on
  abbrev pub ReadsTalk : Phase → ℕ → Session → Result Talk ServerFault → V → V → Type 0
  ReadsTalk phase columns session result old new =
      Reads talk_view result (state old).pending (state new).pending (talk_at phase columns (session_view session))

  -- the start of a session
  abbrev pub ReadsStart : Result Session ServerFault → V → V → Type 0
  ReadsStart result old new = Reads session_view result (state old).pending (state new).pending start_at

  -- a row of this many columns, after which the session is this one
  abbrev pub ReadsRow : ℕ → Session → Session → Result (Vec (Option (String Global)) Global) ServerFault → V → V
      → Type 0
  ReadsRow columns before after result old new =
      Reads (λ v. record { cells = cells_view v.items; taken = session_view after }) result (state old).pending
      (state new).pending (row_at columns (session_view before))

  -- ---- what the server answers to a query of a backup

  abbrev pub GivesSystem : ℕ → Session → Session → Result SegSize ServerFault → V → V → Type 0
  GivesSystem system before after result old new =
      Answers (λ z. z.0) result (session_view after) (state old).pending (state new).pending
      (talk_at Heading 2 (session_view before)) (SystemOutcome system)

  abbrev pub GivesStart : Session → Session → Result Started ServerFault → V → V → Type 0
  GivesStart before after result old new =
      Answers (λ s. s) result (session_view after) (state old).pending (state new).pending
      (talk_at Heading 2 (session_view before)) StartOutcome

  abbrev pub GivesStop : Session → Session → Result Stopped ServerFault → V → V → Type 0
  GivesStop before after result old new =
      Answers stopped_view result (session_view after) (state old).pending (state new).pending
      (talk_at Heading 4 (session_view before)) StopOutcome
