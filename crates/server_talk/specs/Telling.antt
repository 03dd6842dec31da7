-- What a server says about a backup that it starts and stops (PostgreSQL manual, "Continuous Archiving", low level
-- API).
use Rattle.std.specs.Prelude.{◌≡◌, ℕ, Bool, List, [], ◌++◌, Option, Some, IfSome, Result, Ok, Err, string_bytes}
use Rattle.base_model.specs.Text.{Text}
use Rattle.server_talk.specs.declared.session.known.Started.{Started}
use Rattle.server_talk.specs.Fault.{Fault}
use Rattle.server_talk.specs.Rows.{Stop, SystemOutcome, StartOutcome, StopOutcome, system_query, start_query, stop_query}
use Rattle.server_talk.specs.Sends.{startup_of, query_of, closing}
use Rattle.server_talk.specs.Session.{start_at, answer_at}
use Rattle.server_talk.specs.Talk.{Talk, Taken}
use Rattle.server_talk.specs.Views.{session_view}
use Rattle.server_talk.specs.declared.backups.begun.Begun.{Begun}
use Rattle.server_talk.specs.declared.backups.begun.Finished.{Finished}

-- ---- what is sent

-- the first message, the query of the system, and the one that starts a backup
abbrev pub starting : Text → Text → Bool → Text
starting user database fast = startup_of user database ++ (query_of system_query ++ query_of (start_query fast))

-- the query that stops it, and the end
abbrev pub stopping : Text
stopping = query_of stop_query ++ closing

-- ---- what is reported

-- how much was taken of a server's bytes, and those that follow
abbrev pub Left : Type 0
Left = Taken × List ℕ

-- The answer to a query, by the reading of its talk and by what its row states: that, and what is left; or a fault.
pub data Replies {Y : Type 0} (read : Result (Talk × List ℕ) Fault) (Shows : Talk → Result Y Fault → Type 0)
    : Result (Y × Left) Fault → Type 0 where
  -- there is no row
  unread : (fault : Fault) → read ≡ Err fault → Replies read Shows (Err fault)
  -- its row is refused
  refused : (t : Talk) (rest : List ℕ) (fault : Fault) → read ≡ Ok (t, rest) → Shows t (Err fault) →
      Replies read Shows (Err fault)
  answered : (t : Talk) (rest : List ℕ) (y : Y) → read ≡ Ok (t, rest) → Shows t (Ok y) →
      Replies read Shows (Ok (y, (t.taken, rest)))

-- the replies of a server, of whose bytes this is left
abbrev pub SystemReplies : ℕ → Left → Result (ℕ × Left) Fault → Type 0
SystemReplies kept left = Replies (answer_at 2 left.0 left.1) (SystemOutcome kept)

abbrev pub StartReplies : Left → Result (Started × Left) Fault → Type 0
StartReplies left = Replies (answer_at 2 left.0 left.1) StartOutcome

abbrev pub StopReplies : Left → Result (Stop × Left) Fault → Type 0
StopReplies left = Replies (answer_at 4 left.0 left.1) StopOutcome

-- the size of the server's segments, and where the backup starts
pub record Start : Type 0 where
  pub size : ℕ
  pub at : Started

-- what a server reports after the start of a session, where this system is kept: a backup's start, and what is left; or
-- the first fault
pub data Begins (kept : ℕ) (left : Left) : Result (Start × Left) Fault → Type 0 where
  -- it doesn't state its system, or states another
  unknown : (fault : Fault) → SystemReplies kept left (Err fault) → Begins kept left (Err fault)
  -- it starts no backup
  unstarted : (size : ℕ) (following : Left) (fault : Fault) → SystemReplies kept left (Ok (size, following)) →
      StartReplies following (Err fault) → Begins kept left (Err fault)
  begun : (size : ℕ) (following : Left) (at : Started) (end : Left) → SystemReplies kept left (Ok (size, following)) →
      StartReplies following (Ok (at, end)) → Begins kept left (Ok (record { size = size; at = at }, end))

-- What all the bytes of a server report up to a backup's start, whatever the pieces in which they come.
pub data Starts (kept : ℕ) (bytes : List ℕ) : Result (Start × Left) Fault → Type 0 where
  -- it grants no session
  unopened : (fault : Fault) → start_at bytes ≡ Err fault → Starts kept bytes (Err fault)
  opened : (left : Left) (outcome : Result (Start × Left) Fault) → start_at bytes ≡ Ok left →
      Begins kept left outcome → Starts kept bytes outcome

-- ---- where that is known

-- where the backup begins in the log, by what the server reported
abbrev pub begun_start : Begun → Start
begun_start b = record { size = b.size.0; at = record { lsn = b.from; segment = b.segment } }

-- by this reading of the bytes that were pending this is reported, and this much was taken; the others are pending
abbrev pub ShowsOf : {Y : Type 0} → Option (List ℕ) → Option (List ℕ) → (List ℕ → Result (Y × Left) Fault → Type 0) →
    Y → Taken → Type 0
ShowsOf old new Reading y taken =
    IfSome old (λ bytes. (rest : List ℕ) × (new ≡ Some rest) × Reading bytes (Ok (y, (taken, rest))))

-- the server reported this backup's start
abbrev pub ShowsBegun : ℕ → Option (List ℕ) → Option (List ℕ) → Begun → Type 0
ShowsBegun kept old new b = ShowsOf old new (Starts kept) (begun_start b) (session_view b.session)

abbrev pub finished_stop : Finished → Stop
finished_stop f = record {
  lsn = f.wal.to.0;
  segment = f.wal.span.stop;
  label_file = string_bytes f.label_file;
  map_file = [];
}

-- the server reported this stop of the backup
abbrev pub ShowsStop : Begun → Option (List ℕ) → Option (List ℕ) → Stop → Type 0
ShowsStop b old new stop =
    (taken : Taken) × ShowsOf old new (λ bytes. StopReplies (session_view b.session, bytes)) stop taken
