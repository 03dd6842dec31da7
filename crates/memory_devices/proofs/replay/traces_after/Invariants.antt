use Rattle.std.proofs.Common.{◌≡◌, take}
use Rattle.std.specs.Prelude.{fold}
use Rattle.memory_devices.specs.State.{first_state}
use Rattle.memory_devices.specs.Replay.{states_in, states_of, step_at}
use Rattle.memory_devices.proofs.replay.traces_after.Given as goal

abbrev pub invariant-loop-change : goal.invariant-loop-change
invariant-loop-change l = states_in l.traces ≡ fold step_at (states_of (first_state l.given)) (take l.change-index l.changes)
