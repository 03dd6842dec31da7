-- Why a run of jobs ends early. Own.
use Rattle.base_devices.specs.Cause.{Rises}
use Rattle.std.specs.Prelude.{ℕ}
use Rattle.base_devices.specs.declared.device_error.DeviceError.{DeviceError}
use Rattle.base_devices.specs.declared.device_error.DeviceError.TheVariants.{Failed, NoMemory}
use Rattle.worker_pool.specs.declared.dispatch.fault.DispatchFault.{DispatchFault}
use Rattle.worker_pool.specs.declared.dispatch.fault.DispatchFault.TheVariants as faults

-- why a keeper's call failed
abbrev pub fault_of : DeviceError → DispatchFault
fault_of Failed = faults.PartSink
fault_of NoMemory = faults.NoMemory

-- the keeper failed, which its count of faults shows, or memory ran out
abbrev pub IsQuiet : DispatchFault → ℕ → ℕ → Type 0
IsQuiet faults.WorkersLost old new = ⊥
IsQuiet (faults.Unread job item) old new = ⊥
IsQuiet faults.PartSink old new = Rises old new
IsQuiet faults.NoMemory old new = Unit {0}
