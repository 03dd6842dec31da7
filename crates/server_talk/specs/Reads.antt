-- What an answer says of the bytes that were pending.
use Rattle.std.specs.Prelude.{◌≡◌, ◌≤◌, ◌⊎◌, ◌++◌, ℕ, List, Option, option_map, IfSome, string_bytes, Result, Ok, Err, IsErrOf}
use Rattle.base_devices.specs.Cause.{Rises}
use Rattle.server_talk.specs.declared.session.fault.ServerFault.{ServerFault}
use Rattle.server_talk.specs.declared.session.fault.ServerFault.TheVariants as faults
use Rattle.server_talk.specs.Fault.{Fault, ended, form, too_long, too_many, said, auth, mismatch}

-- a fault of the server's is the reading's own, with its place
abbrev pub Fails : {Y : Type 0} → ServerFault → Result Y Fault → Type 0
Fails faults.NoMemory read = Unit {0}
Fails faults.ServerConnection read = Unit {0}
Fails (faults.ServerSaid code text) read = read ≡ Err (said (string_bytes code) (string_bytes text))
Fails (faults.AuthUnsupported code) read = read ≡ Err (auth code)
Fails (faults.ServerForm at) read = read ≡ Err (form at)
Fails (faults.ServerEnded at) read = read ≡ Err (ended at)
Fails (faults.SystemMismatch kept found) read = read ≡ Err (mismatch kept found)
Fails (faults.TooLong length) read = read ≡ Err (too_long length)
Fails (faults.TooMany limit) read = read ≡ Err (too_many limit)

-- an answer is what reading gives, unless memory ran out or the connection failed
abbrev pub Gives : {X Y : Type 0} → (X → Y) → Result X ServerFault → Result Y Fault → Type 0
Gives view (Ok x) read = read ≡ Ok (view x)
Gives view (Err e) read = Fails e read

-- a fault that isn't the server's
abbrev pub IsOutside : ServerFault → Type 0
IsOutside faults.NoMemory = Unit {0}
IsOutside faults.ServerConnection = Unit {0}
IsOutside (faults.ServerSaid code text) = ⊥
IsOutside (faults.AuthUnsupported code) = ⊥
IsOutside (faults.ServerForm at) = ⊥
IsOutside (faults.ServerEnded at) = ⊥
IsOutside (faults.SystemMismatch kept found) = ⊥
IsOutside (faults.TooLong length) = ⊥
IsOutside (faults.TooMany limit) = ⊥

-- the same for what was pending, where that is known: after an Ok what comes after is pending
abbrev pub Reads : {X Y : Type 0} → (X → Y) → Result X ServerFault → Option (List ℕ) → Option (List ℕ)
    → (List ℕ → Result (Y × List ℕ) Fault) → Type 0
Reads view (Ok x) old new read = option_map read old ≡ option_map (λ rest. Ok (view x, rest)) new
Reads view (Err e) old new read = IfSome (option_map read old) (Fails e)

-- the connection's count of faults doesn't fall, and Wire is reported only where it rose
pub record HasCause {T : Type 0} (before now : ℕ) (result : Result T ServerFault) : Type 0 where
  pub later : before ≤ now
  pub failed : IsErrOf result faults.ServerConnection → Rises before now

-- these bytes were sent, or the connection's count of faults rose
abbrev pub Sends : ℕ → ℕ → Option (List ℕ) → Option (List ℕ) → List ℕ → Type 0
Sends before now old new bytes = (new ≡ option_map (λ s. s ++ bytes) old) ⊎ Rises before now
