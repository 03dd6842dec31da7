-- How a device in memory counts its calls.
use Rattle.std.specs.Prelude.{◌≡◌, ℕ, ◌+◌, ◌-◌, ◌^◌, min, Bool, true, ◌||◌, ◌&&◌, not, nat_eq, if◌then◌else◌, Vec, Result, IsErr, IsErrOf}
use Rattle.std.specs.declared.alloc.Global.{Global}
use Rattle.std.specs.List.{list_any}
use Rattle.base_devices.specs.declared.device_error.DeviceError.{DeviceError}
use Rattle.base_devices.specs.declared.device_error.DeviceError.TheVariants.{Failed}
use Rattle.memory_devices.specs.declared.failing.Failing.{Failing}

-- one more, or the end of a count
abbrev pub risen : ℕ → ℕ
risen n = min (n + 1) (2 ^ 64 - 1)

-- the next call is one that is to fail
abbrev pub is_to_fail : Failing → Bool
is_to_fail f = list_any (λ number. nat_eq number f.calls) f.fail.items

-- after a call, which is a fault where it is to fail
abbrev pub counted : Failing → Failing
counted f = record f { calls = risen f.calls; faults = if is_to_fail f then risen f.faults else f.faults }

-- after a call that was faulty
abbrev pub was_faulty_call : Failing → Failing
was_faulty_call f = record f { faults = risen f.faults; faulty_calls = risen f.faulty_calls }

-- after a call that is faulty where this is false and it isn't to fail
abbrev pub tried : Bool → Failing → Failing
tried proper f = if is_to_fail f || proper then counted f else was_faulty_call (counted f)

-- the call fails where this is true, and else only when out of memory
pub record FailsWhere {T : Type 0} (b : Bool) (result : Result T DeviceError) : Type 0 where
  pub always : b ≡ true → IsErr result
  pub only : IsErrOf result Failed → b ≡ true

-- the call fails where it is one that is to fail, or this is false, and else only when out of memory
abbrev pub FailsUnless : {T : Type 0} → Bool → Failing → Result T DeviceError → Type 0
FailsUnless proper f result = FailsWhere (is_to_fail f || not proper) result

-- no call was made so far; these are to fail
abbrev pub uncounted : Vec ℕ Global → Failing
uncounted fail = record { fail = fail; calls = 0; faults = 0; faulty_calls = 0 }

-- after a call that failed though it was proper
abbrev pub faulted : Failing → Failing
faulted f = record f { faults = risen f.faults }

-- after a call that is faulty where the first is false, and that fails where the second is
abbrev pub tried_on : Bool → Bool → Failing → Failing
tried_on proper takes f = if is_to_fail f
    || (proper && takes) then counted f else (if proper then faulted (counted f) else was_faulty_call (counted f))
