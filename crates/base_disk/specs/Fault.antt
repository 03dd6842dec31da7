-- Which fault a call reports.
use Rattle.std.specs.Prelude.{◌≡◌, ◌⊎◌, ℕ, ⊤, string_bytes}
use Rattle.base_devices.specs.Content.{Name}
use Rattle.base_devices.specs.declared.device_error.DeviceError.{DeviceError}
use Rattle.base_devices.specs.declared.device_error.DeviceError.TheVariants.{Failed}
use Rattle.base_devices.specs.declared.device_error.DeviceError.TheVariants.{NoMemory as ErrorNoMemory}
use Rattle.base_disk.specs.declared.fault.StoreFault.{StoreFault}
use Rattle.base_disk.specs.declared.fault.StoreFault.TheVariants.{Disk, TooLong, NoMemory}

-- a failed call, as a fault
abbrev pub fault_of : DeviceError → StoreFault
fault_of Failed = Disk
fault_of ErrorNoMemory = NoMemory

-- the disk failed, or memory did
abbrev pub IsDeviceFault : StoreFault → Type 0
IsDeviceFault fault = (fault ≡ Disk) ⊎ (fault ≡ NoMemory)

-- what holds of the name and the limit, where the fault is that a name's bytes are too long
abbrev pub IfTooLong : StoreFault → (Name → ℕ → Type 0) → Type 0
IfTooLong (TooLong name limit) P = P (string_bytes name) limit
IfTooLong Disk P = ⊤
IfTooLong NoMemory P = ⊤
