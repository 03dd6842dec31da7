-- What a server says of a backup, from one value of the connection to a later one.
use Rattle.std.specs.Prelude.{ℕ, ◌++◌, Bool}
use Rattle.base_devices.specs.States.{ConnectionState, ServerFailed}
use Rattle.base_model.specs.declared.wal.SegSize.{SegSize}
use Rattle.base_model.specs.Text.{Text}
use Rattle.server_talk.specs.declared.session.fault.ServerFault.{ServerFault}
use Rattle.server_talk.specs.declared.session.known.Started.{Started}
use Rattle.server_talk.specs.declared.session.session.Session.{Session}
use Rattle.server_talk.specs.declared.backups.begun.Begun.{Begun}
use Rattle.server_talk.specs.declared.backups.begun.Finished.{Finished}
use Rattle.server_talk.specs.declared.backups.fault.OnlineFault.{OnlineFault}
use Rattle.server_talk.specs.Rows.{system_query, start_query}
use Rattle.server_talk.specs.Sends.{query_of}
use Rattle.server_talk.specs.Views.{session_view}
use Rattle.server_talk.specs.Telling.{finished_stop, Begins, ShowsOf, ShowsStop}
use Rattle.server_talk.specs.Causes.{TalkCause, ShowsFault, StartCause, StopCause, Closes}

-- the query of the system, and the one that starts a backup
abbrev pub beginning : Bool → Text
beginning fast = query_of system_query ++ query_of (start_query fast)

-- A connection has a state.
module _ {V : Type 0} (state : V → ConnectionState) where
  -- the size of the server's segments and the backup's start, where this system is kept
  abbrev pub ShowsStart : ℕ → Session → Session → V → V → SegSize × Started → Type 0
  ShowsStart system before after old new p =
      ShowsOf (state old).pending (state new).pending (λ bytes. Begins system (session_view before, bytes))
      (record { size = p.0.0; at = p.1 }) (session_view after)

  -- why there is none
  abbrev pub RefusesBeginning : ℕ → Session → V → V → ServerFault → Type 0
  RefusesBeginning system before old new e =
      TalkCause (ServerFailed (state old) (state new))
      (ShowsFault (state old).pending (λ bytes. Begins system (session_view before, bytes))) e

  -- why a backup isn't started, from the start of a session on
  abbrev pub RefusesStart : ℕ → V → V → OnlineFault → Type 0
  RefusesStart system old new e = StartCause system (state old).pending (ServerFailed (state old) (state new)) e

  -- the stop of a backup
  abbrev pub ShowsFinished : Begun → V → V → Finished → Type 0
  ShowsFinished b old new f = ShowsStop b (state old).pending (state new).pending (finished_stop f)

  -- why a backup isn't stopped
  abbrev pub RefusesStop : Begun → V → V → OnlineFault → Type 0
  RefusesStop b old new e =
      StopCause b (state old).pending (state new).pending (ServerFailed (state old) (state new)) e

  -- a talk that is refused is ended too, unless the connection failed
  abbrev pub TalkIsClosed : V → V → OnlineFault → Type 0
  TalkIsClosed old new e = Closes (ServerFailed (state old) (state new)) (state new).sent e
