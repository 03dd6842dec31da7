-- How the calls of an object in memory are counted. Own.
use Rattle.std.specs.Prelude.{Bool, nat_eq, if◌then◌else◌, true, ◌≡◌, [], Result, IsErr, IsErrOf}
use Rattle.std.specs.List.{list_any}
use Rattle.base_devices.specs.Links.{bumped}
use Rattle.base_devices.specs.declared.device_error.DeviceError.{DeviceError}
use Rattle.base_devices.specs.declared.device_error.DeviceError.TheVariants.{Failed}
use Rattle.memory_workers.specs.declared.failing.Failing.{Failing}

-- the next call is one that is to fail
abbrev pub is_to_fail : Failing → Bool
is_to_fail f = list_any (λ number. nat_eq number f.calls) f.fail.items

-- after a call, which is a fault where it is to fail
abbrev pub counted : Failing → Failing
counted f = record f { calls = bumped f.calls; faults = if is_to_fail f then bumped f.faults else f.faults }

-- the call fails where this is true, and else only when out of memory
pub record FailsWhere {T : Type 0} (b : Bool) (result : Result T DeviceError) : Type 0 where
  pub always : b ≡ true → IsErr result
  pub only : IsErrOf result Failed → b ≡ true

-- no call is to fail, and none was made
abbrev pub IsUnfailing : Failing → Type 0
IsUnfailing f = (f.fail.items ≡ []) × (f.calls ≡ 0) × (f.faults ≡ 0)
