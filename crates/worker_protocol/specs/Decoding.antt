-- What reading the frame at the front of some bytes returns. Own.
use Rattle.std.specs.Prelude.{◌≡◌, ◌≢◌, ℕ, List, ◌++◌, Result, Err}
use Rattle.worker_protocol.specs.declared.frames.fault.FrameFault.{FrameFault}
use Rattle.worker_protocol.specs.declared.frames.fault.FrameFault.TheVariants.{Short}
use Rattle.worker_protocol.specs.declared.frames.frames.Frame as rust_frame
use Rattle.worker_protocol.specs.Frames.{Frame, FitsFrame, spell}
use Rattle.worker_protocol.specs.Reading.{Gives, frame_at, read_as}
use Rattle.worker_protocol.specs.Views.{frame_of}

-- where the bytes begin with a frame that keeps the rules, that frame is read
abbrev pub IsOnlyReading : Result (rust_frame.Frame × ℕ) FrameFault → List ℕ → Type 0
IsOnlyReading result bytes = (f : Frame) (rest : List ℕ) → FitsFrame f → bytes ≡ spell f ++ rest
    → Gives (λ x. (frame_of x.0, x.1)) result (read_as f)

-- unless they are too short, the same is read whatever bytes follow
abbrev pub IsSettled : Result (rust_frame.Frame × ℕ) FrameFault → List ℕ → Type 0
IsSettled result bytes = (more : List ℕ) → result ≢ Err Short
    → Gives (λ x. (frame_of x.0, x.1)) result (frame_at (bytes ++ more))
