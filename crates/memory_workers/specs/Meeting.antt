-- What each of two links that wait for each other counts. Own.
use Rattle.std.specs.Prelude.{ℕ, ◌≡◌, ◌⊎◌, [], List, Some, None, Result, Ok}
use Rattle.base_devices.specs.Content.{Content}
use Rattle.base_devices.specs.Links.{LinkState, ReceiveLeaves}
use Rattle.base_devices.specs.declared.device_error.DeviceError.{DeviceError}
use Rattle.memory_workers.specs.declared.meet.MeetLink.{MeetLink}
use Rattle.memory_workers.specs.Workers as workers

-- its answers are unknown
abbrev pub state_of : MeetLink → LinkState
state_of m = record (workers.state_of m.link) { known = None }

-- Nothing was sent, and the link in it is one to a worker whose roots hold these files, no call of which is to fail.
pub record Begins (tree repo : Content) (m : MeetLink) : Type 0 where
  pub state : state_of m ≡ record { faults = 0; jobs = 0; reads = 0; given = []; known = None }
  pub link : (workers.state_of m.link).known ≡ Some (workers.known_first tree repo [])

-- it gives nothing and stays as it is, or gives what the link in it gives
abbrev pub WaitsOrReceives : Result ℕ DeviceError → List ℕ → MeetLink → MeetLink → Type 0
WaitsOrReceives result bytes old new = ((result ≡ Ok 0) × (new ≡ old))
    ⊎ ReceiveLeaves result bytes (workers.state_of old.link) (workers.state_of new.link)
