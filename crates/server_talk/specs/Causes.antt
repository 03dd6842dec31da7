-- Why an online backup isn't started or stopped.
use Rattle.std.specs.Prelude.{◌≡◌, ◌≢◌, ◌⊎◌, ℕ, List, [], Option, IfSome, Result, Err}
use Rattle.base_model.specs.declared.wal.Segment.{Segment}
use Rattle.server_talk.specs.declared.session.fault.ServerFault.{ServerFault}
use Rattle.server_talk.specs.declared.session.fault.ServerFault.TheVariants as server
use Rattle.server_talk.specs.Fault.{Fault}
use Rattle.server_talk.specs.Reads.{Fails}
use Rattle.server_talk.specs.Rows.{Stop}
use Rattle.server_talk.specs.Sends.{Ended}
use Rattle.server_talk.specs.Views.{session_view}
use Rattle.server_talk.specs.declared.backups.begun.Begun.{Begun}
use Rattle.server_talk.specs.declared.backups.fault.OnlineFault.{OnlineFault}
use Rattle.server_talk.specs.declared.backups.fault.OnlineFault.TheVariants.{Server, TablespaceMap, SpanWrong}
use Rattle.repo_names.specs.Spans.{IsSpanOf}
use Rattle.server_talk.specs.Telling.{Start, Left, Starts, StopReplies, ShowsStop}

-- a fault of a talk: the connection failed, or the server reported it
abbrev pub TalkCause : Type 0 → (ServerFault → Type 0) → ServerFault → Type 0
TalkCause rose known server.NoMemory = Unit {0}
TalkCause rose known server.ServerConnection = rose
TalkCause rose known fault = known fault

-- this reading of what was pending has the fault
abbrev pub ShowsFault : {Y : Type 0} → Option (List ℕ) → (List ℕ → Result Y Fault → Type 0) → ServerFault → Type 0
ShowsFault {Y} pending Reading fault =
    IfSome pending (λ bytes. (f : Fault) × Reading bytes (Err f) × Fails {Y = Y} fault (Err f))

-- why a backup isn't started, where this system is kept
abbrev pub StartCause : ℕ → Option (List ℕ) → Type 0 → OnlineFault → Type 0
StartCause kept pending rose (Server fault) = TalkCause rose (ShowsFault pending (Starts kept)) fault
StartCause kept pending rose other = ⊥

-- why a stop isn't one of a backup that starts in this segment: a map of tablespaces comes first
abbrev pub Misses : ℕ → Segment → Stop → OnlineFault → Type 0
Misses size segment stop (Server fault) = ⊥
Misses size segment stop TablespaceMap = stop.map_file ≢ []
Misses size segment stop (SpanWrong start last) =
    (stop.map_file ≡ []) × (start ≡ segment) × (last ≡ stop.segment)
    × ¬ IsSpanOf size (record { start = start; stop = last })

-- why a backup isn't stopped
abbrev pub StopCause : Begun → Option (List ℕ) → Option (List ℕ) → Type 0 → OnlineFault → Type 0
StopCause b old new rose (Server fault) =
    TalkCause rose (ShowsFault old (λ bytes. StopReplies (session_view b.session, bytes))) fault
StopCause b old new rose other = (stop : Stop) × ShowsStop b old new stop × Misses b.size.0 b.segment stop other

-- a talk that is refused is ended too, unless the connection failed
abbrev pub Closes : Type 0 → Option (List ℕ) → OnlineFault → Type 0
Closes rose sent fault = fault ≢ Server server.NoMemory → Ended sent ⊎ rose
