-- The talk with a server that is asked for its system (PostgreSQL manual, "Message Flow").
use Rattle.std.specs.Prelude.{◌≡◌, ◌≤◌, ◌⊎◌, ℕ, List, ◌++◌, Option, Some, None, option_map, IfSome, IsSome, Result, Ok}
use Rattle.base_devices.specs.States.{ConnectionState, ServerFailed}
use Rattle.base_model.specs.Text.{Text}
use Rattle.server_talk.specs.declared.session.fault.ServerFault.{ServerFault}
use Rattle.server_talk.specs.declared.session.fault.ServerFault.TheVariants as server
use Rattle.server_talk.specs.Fault.{Fault as Refusal}
use Rattle.server_talk.specs.Reads.{Fails, IsOutside}
pub use Rattle.server_talk.specs.Sends.{Ended}
use Rattle.server_talk.specs.System.{Shows, questions}
use Rattle.cmd_types.specs.declared.stages.object.Object.TheVariants.{Server as TheServer}
use Rattle.cmd_types.specs.declared.stages.halt.Halt.{Halt}
use Rattle.cmd_types.specs.declared.stages.halt.Halt.TheVariants.{Refused, Failed, NoMemory}
use Rattle.cmd_types.specs.Halts.{HaltCause, Only}
use Rattle.cmd_stanza_create.specs.declared.server.Server as code
use Rattle.cmd_stanza_create.specs.Server.{Server, server_view, socket_path}

-- ---- what is said

-- the server, where one is asked, was asked at its socket, and the talk was ended
abbrev pub Asks : Option Server → Text → Option (List ℕ) → Option (List ℕ) → Type 0
Asks None place old new = Unit {0}
Asks (Some s) place old new = (place ≡ socket_path s)
    × (new ≡ option_map (λ said. said ++ questions s.user s.database) old)

-- a talk that the server's answer ended was ended with the last message too, unless the connection failed
abbrev pub Closes : Type 0 → Option (List ℕ) → Halt ServerFault → Type 0
Closes rose new (Refused fault) = Ended new ⊎ rose
Closes rose new other = Unit {0}

-- ---- the same for a call's two states of the connection

-- the server was asked at this path, and the talk was ended
abbrev pub AsksAt : Text → code.Server → ConnectionState → ConnectionState → Type 0
AsksAt path s old new = (new.place ≡ path)
    × (new.sent ≡ option_map (λ said. said ++ questions s.user.now s.database.now) old.sent)

-- where one is asked
abbrev pub AsksIfAny : Option code.Server → ConnectionState → ConnectionState → Type 0
AsksIfAny asked old new = Asks (option_map server_view asked) new.place old.sent new.sent

-- the talk was ended with the last message, or the connection failed
abbrev pub EndsOrFails : ConnectionState → ConnectionState → Type 0
EndsOrFails old new = Ended new.sent ⊎ ServerFailed old new

-- where the server's answer ended it
abbrev pub ClosesOrFails : ConnectionState → ConnectionState → Halt ServerFault → Type 0
ClosesOrFails old new halt = Closes (ServerFailed old new) new.sent halt

-- the statuses of a server's answer that is refused; 70 is also that of a file that is too long
abbrev pub IsServerRefusal : ℕ → Type 0
IsServerRefusal status = ((47 ≤ status) × (status ≤ 51)) ⊎ ((70 ≤ status) × (status ≤ 71))

-- ---- what is reported

-- the server is of this system, where that is known
abbrev pub IsOf : ℕ → Option (List ℕ) → Type 0
IsOf system pending = IfSome pending (λ bytes. (size : ℕ) × Shows system bytes (Ok size))

-- where one is asked
abbrev pub IsOfIfAny : Option code.Server → ℕ → ConnectionState → Type 0
IsOfIfAny asked system old = IfSome asked (λ _. IsOf system old.pending)

-- it states this fault, where that is known
abbrev pub ShowsFault : ℕ → Option (List ℕ) → ServerFault → Type 0
ShowsFault system pending fault = IfSome pending
    (λ bytes. (outcome : Result ℕ Refusal) × Shows system bytes outcome × Fails fault outcome)

-- ---- why the talk fails

-- the connection failed, memory did, or the server's answer is refused
abbrev pub server_halt : ServerFault → Halt ServerFault
server_halt server.NoMemory = NoMemory
server_halt server.ServerConnection = Failed TheServer
server_halt fault = Refused fault

-- the server that is asked states this, to one that looks for this system
abbrev pub AskCause : Option Server → ℕ → Option (List ℕ) → ServerFault → Type 0
AskCause asked system pending fault = IsSome asked × ¬ IsOutside fault × ShowsFault system pending fault

-- why a call that asks it ends without its result
abbrev pub AskFails : Option code.Server → ℕ → ConnectionState → ConnectionState → Halt ServerFault → Type 0
AskFails asked system old new = HaltCause (AskCause (option_map server_view asked) system old.pending)
    (Only TheServer (ServerFailed old new))
