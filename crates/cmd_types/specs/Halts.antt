-- Why a call ends without its result.
use Rattle.std.specs.Prelude.{◌≡◌}
use Rattle.base_devices.specs.declared.device_error.DeviceError.{DeviceError}
use Rattle.base_devices.specs.declared.device_error.DeviceError.TheVariants.{Failed as ErrorFailed, NoMemory as ErrorNoMemory}
use Rattle.cmd_types.specs.declared.stages.object.Object.{Object}
use Rattle.cmd_types.specs.declared.stages.halt.Halt.{Halt}
use Rattle.cmd_types.specs.declared.stages.halt.Halt.TheVariants.{Refused, Failed, NoMemory}

-- a failed call of this object
abbrev pub halt_of : {E : Type 0} → Object → DeviceError → Halt E
halt_of object ErrorFailed = Failed object
halt_of object ErrorNoMemory = NoMemory

-- it was refused for this, or an object failed, or memory did
abbrev pub HaltCause : {E : Type 0} → (E → Type 0) → (Object → Type 0) → Halt E → Type 0
HaltCause why failed (Refused e) = why e
HaltCause why failed (Failed object) = failed object
HaltCause why failed NoMemory = Unit {0}

-- nothing is refused
abbrev pub Never : {E : Type 0} → E → Type 0
Never e = ⊥

-- only this object failed, and its count rose
abbrev pub Only : Object → Type 0 → Object → Type 0
Only which rose object = (object ≡ which) × rose
