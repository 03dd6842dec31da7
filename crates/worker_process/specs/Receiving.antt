-- What a worker receives of its input (own).
use Rattle.std.specs.Prelude.{◌≡◌, ◌≢◌, ◌⊎◌, ◌<◌, ◌+◌, ◌-◌, ◌^◌, ℕ, Bool, min, [], ◌++◌, length, take, drop, slice_index, Option, Some, None, Result, Ok, Err, IfOk, MatchBool}
use Rattle.std.specs.Int.{w32, from_be_bytes}
use Rattle.base_devices.specs.States.{InputState}
use Rattle.base_devices.specs.Streams.{Gives}
use Rattle.base_model.specs.Text.{Text}
use Rattle.worker_protocol.specs.declared.frames.frames.Job as rust_job
use Rattle.worker_protocol.specs.declared.frames.frames.Roots as rust_roots
use Rattle.worker_protocol.specs.declared.frames.fault.FrameFault.TheVariants as faults
use Rattle.worker_process.specs.declared.serve_fault.ServeFault.{ServeFault}
use Rattle.worker_process.specs.declared.serve_fault.ServeFault.TheVariants.{Form, TooLong, TooMany, Ended, Read, OutputStream, NoMemory}
use Rattle.worker_protocol.specs.Frames.{Frame, FitsFrame, spell}
use Rattle.worker_protocol.specs.Frames.Frame.{Setup, Task}
use Rattle.worker_protocol.specs.Reading.{frame_at}
use Rattle.worker_protocol.specs.Views.{job_of, roots_of}

-- the length of the frame at the front of the bytes, by its own length
abbrev pub size_known : Text → ℕ
size_known bytes = 5 + from_be_bytes w32 (take 4 (drop 1 bytes))

-- all that receiving fails for without a fault of the bytes
abbrev pub IsInputFault : ServeFault → Type 0
IsInputFault e = (e ≡ Read) ⊎ (e ≡ NoMemory)

-- receiving never fails for the output
abbrev pub IsNotOutput : ServeFault → Type 0
IsNotOutput OutputStream = ⊥
IsNotOutput other = Unit {0}

-- Where a frame of this type is to come, the field that begins there is at fault: the type is another one, or reading
-- finds it.
abbrev pub IsFormAt : ℕ → Text → ℕ → Type 0
IsFormAt letter rest at = ((slice_index rest 0 ≢ letter) × (at ≡ 0))
    ⊎ ((slice_index rest 0 ≡ letter) × (frame_at rest ≡ Err (faults.Form at)))

-- Why no frame of this type is received from what is left, of which this many bytes came before. A place past 64 bits
-- is reported as their end.
abbrev pub StopsAt : ℕ → ℕ → Text → ServeFault → Type 0
StopsAt letter start rest (Form at) = (0 < length rest)
    × ((k : ℕ) × (at ≡ min (start + k) (2 ^ 64 - 1)) × IsFormAt letter rest k)
StopsAt letter start rest (TooLong n) = (slice_index rest 0 ≡ letter) × (frame_at rest ≡ Err (faults.TooLong n))
StopsAt letter start rest (Ended at) = (0 < length rest) × (slice_index rest 0 ≡ letter)
    × (frame_at rest ≡ Err faults.Short) × (at ≡ min (start + length rest) (2 ^ 64 - 1))
StopsAt letter start rest (TooMany limit) = ⊥
StopsAt letter start rest OutputStream = ⊥
StopsAt letter start rest Read = Unit {0}
StopsAt letter start rest NoMemory = Unit {0}

-- this frame, of this many bytes, is at the front of what is left, and what follows it is left then
pub record IsFullyReceived (frame : Frame) (size : ℕ) (rest : Text) (left : Option Text) : Type 0 where
  pub fits : FitsFrame frame
  pub later : Text
  pub prefix : rest ≡ spell frame ++ later
  pub size_is : size ≡ length (spell frame)
  pub left_is : left ≡ Some later

-- what is received where this much was left: none where it was over
abbrev pub Receives : {X : Type 0} → (X → Frame) → ℕ → ℕ → Text → Result (Option (X × ℕ)) ServeFault → Option Text →
    Type 0
Receives view letter start rest (Ok None) left = (rest ≡ []) × (left ≡ Some [])
Receives view letter start rest (Ok (Some x)) left = IsFullyReceived (view x.0) x.1 rest left
Receives view letter start rest (Err e) left = StopsAt letter start rest e

-- the same for an input of which it is known what is left: for the setup, and for a job before whose frame this many
-- bytes came
abbrev pub ReceivesSetup : InputState → Result (Option (rust_roots.Roots × ℕ)) ServeFault → InputState → Type 0
ReceivesSetup old result new =
    (rest : Text) → old.left ≡ Some rest → Receives (λ r. Setup (roots_of r)) 83 0 rest result new.left

abbrev pub ReceivesJob : ℕ → InputState → Result (Option (rust_job.Job × ℕ)) ServeFault → InputState → Type 0
ReceivesJob start old result new =
    (rest : Text) → old.left ≡ Some rest → Receives (λ j. Task (job_of j)) 74 start rest result new.left

-- whatever was to come of the input, with these bytes before it, comes still
abbrev pub StillGives : Text → InputState → Text → InputState → Type 0
StillGives bytes old more new = (total : Option Text) → Gives total bytes old.left → Gives total more new.left

-- the result says whether the input is over, where it is known what is left of it
abbrev pub SaysWhetherOver : InputState → Result Bool ServeFault → Type 0
SaysWhetherOver old result =
    (rest : Text) → old.left ≡ Some rest → IfOk result (λ b. MatchBool b (rest ≡ []) (0 < length rest))

-- what looking at the front of a frame finds
abbrev pub FaultAt : ℕ → Text → ServeFault → Type 0
FaultAt start bytes (Form at) = (more : Text)
    → (k : ℕ) × (at ≡ min (start + k) (2 ^ 64 - 1)) × (frame_at (bytes ++ more) ≡ Err (faults.Form k))
FaultAt start bytes (TooLong n) = (more : Text) → frame_at (bytes ++ more) ≡ Err (faults.TooLong n)
FaultAt start bytes NoMemory = Unit {0}
FaultAt start bytes other = ⊥
