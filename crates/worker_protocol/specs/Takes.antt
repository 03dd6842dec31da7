-- What was taken from a link, and why no more was. Own.
use Rattle.std.specs.Prelude.{ℕ, true, ◌≡◌, ◌+◌, ◌-◌, ◌^◌, ◌<◌, ◌≤◌, ◌++◌, [], ◌∷◌, length, take, min, Option, Some, None, IfSome, Result, Ok, Err}
use Rattle.std.specs.Int.{w32, w64, to_be_bytes}
use Rattle.base_devices.specs.Cause.{Rises}
use Rattle.base_devices.specs.Links.{LinkState, Modelled, IsSteady, last_five}
use Rattle.base_devices.specs.declared.device_error.DeviceError.{DeviceError}
use Rattle.base_devices.specs.declared.device_error.DeviceError.TheVariants.{Failed, NoMemory}
use Rattle.base_model.specs.Text.{Text}
use Rattle.base_text.specs.declared.sum.Sum as digests
use Rattle.worker_protocol.specs.declared.replies.cause.LostCause.{LostCause}
use Rattle.worker_protocol.specs.declared.replies.cause.LostCause.TheVariants.{Device, Ended, Form, Sum}
use Rattle.worker_protocol.specs.declared.replies.cause.ReceiveFault.{ReceiveFault}
use Rattle.worker_protocol.specs.declared.replies.cause.ReceiveFault.TheVariants as faults

-- of a known link, the first bytes that it was to give were given, and the rest is still to come
abbrev pub TakesPrefix : Option Modelled → Option Modelled → Text → Type 0
TakesPrefix None new bytes = new ≡ None
TakesPrefix (Some known) new bytes = (rest : Text) × (known.pending ≡ bytes ++ rest)
    × (new ≡ Some (record known { pending = rest }))

-- the bytes of a frame's type and the length of its body
abbrev pub head_bytes : ℕ × ℕ → Text
head_bytes x = x.0 ∷ to_be_bytes w32 x.1

-- the bytes of the number and the digest that end an item
abbrev pub end_bytes : ℕ × digests.Sum → Text
end_bytes x = to_be_bytes w64 x.0 ++ x.1.0

-- these bytes were given, and nothing else happened
pub record Takes (old new : LinkState) (bytes : Text) : Type 0 where
  pub known : TakesPrefix old.known new.known bytes
  pub given : last_five new.given ≡ last_five (old.given ++ bytes)
  pub jobs : new.jobs ≡ old.jobs
  pub reads : new.reads ≡ old.reads
  pub faults : new.faults ≡ old.faults

-- a steady link has nothing more to give
abbrev pub IsDry : LinkState → Type 0
IsDry s = IfSome s.known (λ t. t.steady ≡ true → t.pending ≡ [])

-- a call failed, which is counted; a steady link's never does
pub record Breaks (old new : LinkState) : Type 0 where
  pub rises : Rises old.faults new.faults
  pub unsteady : ¬ IsSteady old

-- why no more was received
abbrev pub Stops : DeviceError → LinkState → LinkState → Type 0
Stops Failed old new = Breaks old new
Stops NoMemory old new = Unit {0}

-- a buffer was filled, or a part of it before the link's end or a failing call
abbrev pub Filled : Result (Option ℕ) DeviceError → Text → LinkState → LinkState → Type 0
Filled (Ok None) buf old new = Takes old new buf
Filled (Ok (Some n)) buf old new = (n < length buf) × Takes old new (take n buf) × IsDry new
Filled (Err e) buf old new = Stops e old new

-- some bytes were given, and this many are received with those before
pub record HasReceived (before at : ℕ) (old new : LinkState) : Type 0 where
  pub bytes : Text
  pub takes : Takes old new bytes
  pub count : at ≡ min (before + length bytes) (2 ^ 64 - 1)

-- what is true where a link is lost by its frame
abbrev pub CauseHolds : LostCause → ℕ → LinkState → LinkState → Type 0
CauseHolds Device before old new = Rises old.faults new.faults
CauseHolds (Ended at) before old new = HasReceived before at old new
CauseHolds (Form at) before old new = HasReceived before at old new
CauseHolds (Sum known found) before old new = ⊥

-- why no frame was received
abbrev pub FaultLeaves : ReceiveFault → ℕ → LinkState → LinkState → Type 0
FaultLeaves (faults.Lost cause) before old new = CauseHolds cause before old new
FaultLeaves faults.NoMemory before old new = Unit {0}

-- the link is lost only where this isn't so
abbrev pub Refutes : ReceiveFault → Type 0 → Type 0
Refutes (faults.Lost cause) P = ¬ P
Refutes faults.NoMemory P = Unit {0}

-- the link is steady, and these are its next bytes
pub record Offers (s : LinkState) (bytes : Text) : Type 0 where
  pub shows : Modelled
  pub is : s.known ≡ Some shows
  pub steady : shows.steady ≡ true
  pub rest : Text
  pub pending : shows.pending ≡ bytes ++ rest

-- the link is steady, and has this many bytes to give
abbrev pub OffersMany : LinkState → ℕ → Type 0
OffersMany s n = (bytes : Text) × Offers s bytes × (n ≤ length bytes)

-- these are the next bytes of the link, which may fail or end before it has given them
pub record Begins (s : LinkState) (bytes : Text) : Type 0 where
  pub shows : Modelled
  pub is : s.known ≡ Some shows
  pub rest : Text
  pub pending : shows.pending ≡ bytes ++ rest

-- the link is lost by the form of its bytes only where this isn't so
abbrev pub FormRefutes : ReceiveFault → Type 0 → Type 0
FormRefutes (faults.Lost Device) P = Unit {0}
FormRefutes (faults.Lost (Ended at)) P = Unit {0}
FormRefutes (faults.Lost (Form at)) P = ¬ P
FormRefutes (faults.Lost (Sum known found)) P = ¬ P
FormRefutes faults.NoMemory P = Unit {0}

-- the link failed or ended, or memory ran out
abbrev pub IsShort : ReceiveFault → Type 0
IsShort (faults.Lost Device) = Unit {0}
IsShort (faults.Lost (Ended at)) = Unit {0}
IsShort (faults.Lost (Form at)) = ⊥
IsShort (faults.Lost (Sum known found)) = ⊥
IsShort faults.NoMemory = Unit {0}
