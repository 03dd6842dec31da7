-- A cause of a call's failure is one of its caller's.
use Rattle.std.proofs.Common.{◌≡◌, Result, Ok, Err, IfErr, sym, subst}
use Rattle.std.specs.Prelude.{IsErrAnd}
use Rattle.cmd_types.specs.declared.stages.object.Object.{Object}
use Rattle.cmd_types.specs.declared.stages.object.Object.TheVariants.{Repo, Spool, TheDataFolder, Server, Others, Clock, Locks, Config, Output}
use Rattle.cmd_types.specs.declared.stages.halt.Halt.{Halt}
use Rattle.cmd_types.specs.declared.stages.halt.Halt.TheVariants.{Refused, Failed, NoMemory}
use Rattle.cmd_types.specs.Halts.{HaltCause}
use Rattle.cmd_archive_get.specs.declared.fault.GetFault.{GetFault}
use Rattle.cmd_archive_get.specs.Serving.{RoseIn}

-- a count that rose in the call rose in its caller
rose_as : (rose fell risen fallen : Type 0) → (rose → risen) → (fell → fallen) → (object : Object)
    → RoseIn rose fell object → RoseIn risen fallen object
rose_as rose fell risen fallen up down Repo h = up h
rose_as rose fell risen fallen up down Spool h = absurd h
rose_as rose fell risen fallen up down TheDataFolder h = down h
rose_as rose fell risen fallen up down Server h = absurd h
rose_as rose fell risen fallen up down Others h = absurd h
rose_as rose fell risen fallen up down Clock h = absurd h
rose_as rose fell risen fallen up down Locks h = absurd h
rose_as rose fell risen fallen up down Config h = absurd h
rose_as rose fell risen fallen up down Output h = absurd h

module _ (P Q : GetFault → Type 0) (rose fell risen fallen : Type 0) (to : (fault : GetFault) → P fault → Q fault) (up : rose → risen) (down : fell → fallen) where
  pub stops_as : (halt : Halt GetFault) → HaltCause P (RoseIn rose fell) halt → HaltCause Q (RoseIn risen fallen) halt
  stops_as (Refused fault) h = to fault h
  stops_as (Failed object) h = rose_as rose fell risen fallen up down object h
  stops_as NoMemory h = tt

  pub err_as : {T : Type 0} (result : Result T (Halt GetFault)) → IfErr result (HaltCause P (RoseIn rose fell))
      → IfErr result (HaltCause Q (RoseIn risen fallen))
  err_as (Ok x) h = tt
  err_as (Err halt) h = stops_as halt h

  -- it is handed on
  pub handed_on : {T : Type 0} (result : Result T (Halt GetFault)) (halt : Halt GetFault)
      → IsErrAnd result (λ h. h ≡ halt) → HaltCause P (RoseIn rose fell) halt
      → IfErr result (HaltCause Q (RoseIn risen fallen))
  handed_on (Ok x) halt is h = tt
  handed_on (Err other) halt is h = subst (HaltCause Q (RoseIn risen fallen)) (sym is) (stops_as halt h)
