-- How a command ended, and how far it came by that.
use Rattle.std.specs.Prelude.{Bool, true, false, if◌then◌else◌, Result, Ok, Err, string_bytes}
use Rattle.base_model.specs.Text.{Text}
use Rattle.cmd_types.specs.declared.stages.object.Object.{Object}
use Rattle.cmd_types.specs.declared.stages.object.Object.TheVariants.{Server}
use Rattle.cmd_types.specs.declared.stages.halt.Halt.{Halt}
use Rattle.cmd_types.specs.declared.stages.halt.Halt.TheVariants.{Refused, Failed, NoMemory}
use Rattle.cmd_types.specs.declared.stages.outcome.Outcome.{Outcome}
use Rattle.cmd_types.specs.declared.stages.outcome.Outcome.TheVariants.{Finished, Absent, FindingsFound}
use Rattle.cmd_types.specs.DisksEffect.{Reached, to_end, turned_back, stopped}

-- the command succeeded, with lines of which this holds
abbrev pub OnFinished : Outcome → (Text → Type 0) → Type 0
OnFinished (Finished lines) P = P (string_bytes lines)
OnFinished (Absent name) P = ⊥
OnFinished (FindingsFound lines count) P = ⊥

-- the server is asked before a command's first own step
abbrev pub fails_early : Object → Bool
fails_early Server = true
fails_early _ = false

abbrev pub back_if : Bool → Reached
back_if early = if early then turned_back else stopped

-- of a call that is refused before its first own step for these faults
abbrev pub reached_by : {E : Type 0} → (E → Bool) → Result Outcome (Halt E) → Reached
reached_by early (Ok (Finished lines)) = to_end
reached_by early (Ok (Absent name)) = turned_back
reached_by early (Ok (FindingsFound lines count)) = to_end
reached_by early (Err (Refused e)) = back_if (early e)
reached_by early (Err (Failed object)) = back_if (fails_early object)
reached_by early (Err NoMemory) = stopped
