-- Which answer a call's end is.
use Rattle.std.specs.Prelude.{Result, Ok, Err}
use Rattle.cmd_types.specs.declared.stages.fault.StageFault.{StageFault}
use Rattle.cmd_types.specs.declared.stages.halt.Halt.{Halt}
use Rattle.cmd_types.specs.declared.stages.halt.Halt.TheVariants.{Refused, Failed as HaltFailed, NoMemory as HaltMemory}
use Rattle.cmd_trait.specs.declared.fault.Fault.{Fault}
use Rattle.cmd_trait.specs.declared.fault.Fault.TheVariants.{Stage, Own, Failed, NoMemory}

-- a refusal of a stage
abbrev pub of_stage : {F : Type 0} → Halt StageFault → Fault F
of_stage (Refused e) = Stage e
of_stage (HaltFailed object) = Failed object
of_stage HaltMemory = NoMemory

-- a refusal of the command
abbrev pub of_own : {F : Type 0} → Halt F → Fault F
of_own (Refused e) = Own e
of_own (HaltFailed object) = Failed object
of_own HaltMemory = NoMemory

abbrev pub own_of : {T F : Type 0} → Result T (Halt F) → Result T (Fault F)
own_of (Ok outcome) = Ok outcome
own_of (Err halt) = Err (of_own halt)
