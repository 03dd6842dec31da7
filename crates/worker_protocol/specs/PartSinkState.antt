-- What a keeper holds, and what its calls leave. Own.
use Rattle.std.specs.Prelude.{ℕ, ◌≡◌, ◌+◌, ◌*◌, ◌<◌, ◌≤◌, List, [], ◌∷◌, ◌++◌, length, Option, Some, IfSome, Result, Ok, Err, slice_get}
use Rattle.base_devices.specs.Cause.{Rises}
use Rattle.base_devices.specs.declared.device_error.DeviceError.{DeviceError}
use Rattle.base_devices.specs.declared.device_error.DeviceError.TheVariants.{Failed, NoMemory}
use Rattle.base_model.specs.Text.{Text}
use Rattle.worker_protocol.specs.Frames.{Item, Job, part_size}
use Rattle.worker_protocol.specs.declared.sinks.ItemEnd.{ItemEnd}
use Rattle.worker_protocol.specs.Lists.{ChangesAt}

-- what is held of an item: how many bytes, and which, where they are known
pub record Held : Type 0 where
  pub count : ℕ
  pub known : Option Text

-- an item that has ended
pub record Done : Type 0 where
  pub held : Held
  pub end : ItemEnd

-- what is held of a job: its items that have ended, in order, and what there is of the next
pub record JobItems : Type 0 where
  pub done : List Done
  pub held : Held

-- how often it failed, the jobs that it is for, and what is held of each
pub record PartSinkState : Type 0 where
  pub faults : ℕ
  pub jobs : List Job
  pub kept : List JobItems

-- these bytes are held
abbrev pub Holds : Held → Text → Type 0
Holds held bytes = (held.count ≡ length bytes) × IfSome held.known (λ t. t ≡ bytes)

-- these bytes were added to the next item
pub record Adds (bytes : Text) (old new : JobItems) : Type 0 where
  pub done : new.done ≡ old.done
  pub held : (before : Text) → Holds old.held before → Holds new.held (before ++ bytes)

-- the next item ended so, and nothing is held of the one after it
pub record Ends (how : ItemEnd) (old new : JobItems) : Type 0 where
  pub done : new.done ≡ old.done ++ (record { held = old.held; end = how }) ∷ []
  pub held : Holds new.held []

-- nothing is held of the job
pub record IsFresh (k : JobItems) : Type 0 where
  pub done : k.done ≡ []
  pub held : Holds k.held []

-- the job begins anew
abbrev pub Clears : JobItems → JobItems → Type 0
Clears old new = IsFresh new

-- what a call that changes one job by R leaves
abbrev pub KeepLeaves : Result (Unit {0}) DeviceError → (JobItems → JobItems → Type 0) → ℕ → PartSinkState →
    PartSinkState → Type 0
KeepLeaves (Ok _) R job old new = (new.faults ≡ old.faults) × (new.jobs ≡ old.jobs) × ChangesAt R old.kept new.kept job
KeepLeaves (Err Failed) R job old new = Rises old.faults new.faults
KeepLeaves (Err NoMemory) R job old new = new.faults ≡ old.faults

-- the item is the next of the job to end
pub record IsNext (s : PartSinkState) (job item : ℕ) : Type 0 where
  pub kept : JobItems
  pub kept_is : slice_get s.kept job ≡ Some kept
  pub done : length kept.done ≡ item
  pub asked : Job
  pub asked_is : slice_get s.jobs job ≡ Some asked
  pub within : item < length asked.items

-- These bytes of the next item have room. They follow parts of the full size alone.
pub record HasRoom (s : PartSinkState) (job item : ℕ) (bytes : Text) : Type 0 where
  pub kept : JobItems
  pub kept_is : slice_get s.kept job ≡ Some kept
  pub done : length kept.done ≡ item
  pub asked : Job
  pub asked_is : slice_get s.jobs job ≡ Some asked
  pub next : Item
  pub next_is : slice_get asked.items item ≡ Some next
  pub room : kept.held.count + length bytes ≤ next.size
  pub some : 0 < length bytes
  pub few : length bytes ≤ part_size
  pub parts : ℕ
  pub aligned : kept.held.count ≡ parts * part_size
