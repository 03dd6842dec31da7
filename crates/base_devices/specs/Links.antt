-- What a connection to a worker counts and reports, and what its calls leave of that. Own.
use Rattle.std.specs.Prelude.{◌≡◌, ◌≤◌, ◌<◌, ◌+◌, ◌-◌, ◌^◌, ◌==◌, ◌&&◌, ℕ, Bool, true, false, List, [], ◌++◌, length, take, drop, min, slice_get, Option, Some, None, Result, Ok, Err, IsSomeAnd, if◌then◌else◌}
use Rattle.base_devices.specs.Cause.{Rises}
use Rattle.base_devices.specs.declared.device_error.DeviceError.{DeviceError}
use Rattle.base_devices.specs.declared.device_error.DeviceError.TheVariants.{Failed, NoMemory}

-- what a link reports: its answer to each frame, what it is still to give, and that no call fails or ends before all is
-- given
pub record Modelled : Type 0 where
  pub answer : List ℕ → List ℕ
  pub pending : List ℕ
  pub steady : Bool

-- how often it failed, the jobs that it was sent and the read jobs among them, the last five bytes that it gave, and
-- what is known of it
pub record LinkState : Type 0 where
  pub faults : ℕ
  pub jobs : ℕ
  pub reads : ℕ
  pub given : List ℕ
  pub known : Option Modelled

-- all where there are fewer
abbrev pub last_five : List ℕ → List ℕ
last_five bytes = drop (length bytes - 5) bytes

-- one more, up to the count's end
abbrev pub bumped : ℕ → ℕ
bumped n = min (n + 1) (2 ^ 64 - 1)

-- there is a byte, and it is this one
abbrev pub is_byte : ℕ → Option ℕ → Bool
is_byte byte None = false
is_byte byte (Some b) = b == byte

-- a job's frame begins with `J`
abbrev pub is_job : List ℕ → Bool
is_job frame = is_byte 74 (slice_get frame 0)

-- the body of a read job, after a type and a length, begins with `R`
abbrev pub is_read_job : List ℕ → Bool
is_read_job frame = is_job frame && is_byte 82 (slice_get frame 5)

-- a known link adds its answer to what it is still to give
abbrev pub Answers : Option Modelled → Option Modelled → List ℕ → Type 0
Answers None new frame = new ≡ None
Answers (Some known) new frame = new ≡ Some (record known { pending = known.pending ++ known.answer frame })

-- a frame was sent
pub record Sends (old new : LinkState) (frame : List ℕ) : Type 0 where
  pub faults : new.faults ≡ old.faults
  pub given : new.given ≡ old.given
  pub jobs : new.jobs ≡ (if is_job frame then bumped old.jobs else old.jobs)
  pub reads : new.reads ≡ (if is_read_job frame then bumped old.reads else old.reads)
  pub known : Answers old.known new.known frame

-- a known link gives the next bytes, and a steady one is at its end only where none is left
abbrev pub GivesKnown : Option Modelled → Option Modelled → List ℕ → ℕ → Type 0
GivesKnown None new got room = new ≡ None
GivesKnown (Some known) new got room =
    (got ≡ take (length got) known.pending)
    × (new ≡ Some (record known { pending = drop (length got) known.pending }))
    × (known.steady ≡ true → 0 < room → got ≡ [] → known.pending ≡ [])

-- these bytes were given into a buffer with this room
pub record Receives (old new : LinkState) (got : List ℕ) (room : ℕ) : Type 0 where
  pub faults : new.faults ≡ old.faults
  pub given : new.given ≡ last_five (old.given ++ got)
  pub jobs : new.jobs ≡ old.jobs
  pub reads : new.reads ≡ old.reads
  pub known : GivesKnown old.known new.known got room

-- no call on it fails
abbrev pub IsSteady : LinkState → Type 0
IsSteady s = IsSomeAnd s.known (λ t. t.steady ≡ true)

-- a fault is counted, and a steady link has none
pub record Fails (old new : LinkState) : Type 0 where
  pub later : old.faults ≤ new.faults
  pub rises : Rises old.faults new.faults
  pub unsteady : ¬ IsSteady old

-- out of memory is no fault
abbrev pub ErrorLeaves : DeviceError → LinkState → LinkState → Type 0
ErrorLeaves Failed old new = Fails old new
ErrorLeaves NoMemory old new = new.faults ≡ old.faults

-- what a send leaves
abbrev pub SendLeaves : Result (Unit {0}) DeviceError → List ℕ → LinkState → LinkState → Type 0
SendLeaves (Ok _) frame old new = Sends old new frame
SendLeaves (Err e) frame old new = ErrorLeaves e old new

-- what a receive leaves, where the buffer then holds these bytes
abbrev pub ReceiveLeaves : Result ℕ DeviceError → List ℕ → LinkState → LinkState → Type 0
ReceiveLeaves (Ok n) buf old new = (n ≤ length buf) × Receives old new (take n buf) (length buf)
ReceiveLeaves (Err e) buf old new = ErrorLeaves e old new
