-- Why a part of a restore ends without its result, and the whole.
use Rattle.std.proofs.Common.{◌≡◌, ◌≤◌, ℕ, Result, Ok, Err, refl, sym, subst, arith}
use Rattle.std.specs.Prelude.{IfErr, IsErrAnd}
use Rattle.base_devices.specs.Cause.{Rises, HasCause}
use Rattle.base_devices.specs.declared.device_error.DeviceError.{DeviceError}
use Rattle.base_devices.specs.declared.device_error.DeviceError.TheVariants as stops
use Rattle.cmd_types.specs.declared.stages.object.Object.{Object}
use Rattle.cmd_types.specs.declared.stages.halt.Halt.{Halt}
use Rattle.cmd_types.specs.declared.stages.halt.Halt.TheVariants.{Refused, Failed, NoMemory}
use Rattle.cmd_types.specs.Halts.{HaltCause, Only, halt_of}

pub halt_as : {E : Type 0} (P Q : E → Type 0) (F G : Object → Type 0) → ((e : E) → P e → Q e) → ((o : Object) → F o → G o) → (h : Halt E) → HaltCause P F h → HaltCause Q G h
halt_as P Q F G refused failed (Refused e) h = refused e h
halt_as P Q F G refused failed (Failed o) h = failed o h
halt_as P Q F G refused failed NoMemory h = tt

-- which end this halt of a call is
pub ends_with : {T E : Type 0} (Q : Halt E → Type 0) (result : Result T (Halt E)) (h : Halt E) → IsErrAnd result (λ x. x ≡ h) → Q h → IfErr result Q
ends_with Q (Ok x) h is q = tt
ends_with Q (Err x) h is q = subst Q (sym is) q

-- no object fails by this
pub none_failed : (G : Object → Type 0) (o : Object) → ⊥ → G o
none_failed G o h = absurd h

-- the device failed, where it says so
pub stopped_as : {T E : Type 0} (P : E → Type 0) (object : Object) (old new : ℕ) (stop : DeviceError) → HasCause {T = T} old new (Err stop) → HaltCause P (Only object (Rises old new)) (halt_of object stop)
stopped_as P object old new stops.Failed cause = (refl, cause.failed refl)
stopped_as P object old new stops.NoMemory cause = tt

-- the device's count doesn't fall afterwards
pub rises_on : (f g h : ℕ) → g ≤ h → Rises f g → Rises f h
rises_on f g h le rose = grind arith

-- nor before
pub rises_from : (f g h : ℕ) → f ≤ g → Rises g h → Rises f h
rises_from f g h le rose = grind arith

-- a halt of a later part
pub halt_after : {E : Type 0} (P Q : E → Type 0) (object : Object) (f g h : ℕ) → f ≤ g → ((e : E) → P e → Q e) → (halt : Halt E) → HaltCause P (Only object (Rises g h)) halt → HaltCause Q (Only object (Rises f h)) halt
halt_after P Q object f g h le refused halt cause = halt_as P Q (Only object (Rises g h)) (Only object (Rises f h)) refused (λ o x. (x.0, rises_from f g h le x.1)) halt cause

-- and of an earlier one
pub halt_before : {E : Type 0} (P Q : E → Type 0) (object : Object) (f g h : ℕ) → g ≤ h → ((e : E) → P e → Q e) → (halt : Halt E) → HaltCause P (Only object (Rises f g)) halt → HaltCause Q (Only object (Rises f h)) halt
halt_before P Q object f g h le refused halt cause = halt_as P Q (Only object (Rises f g)) (Only object (Rises f h)) refused (λ o x. (x.0, rises_on f g h le x.1)) halt cause
