use Rattle.std.proofs.Common.{◌≡◌, take}
use Rattle.memory_devices.specs.State.{first_state}
use Rattle.memory_devices.specs.Replay.{states_in, states_of}
use Rattle.memory_devices.proofs.replay.first_traces.Given as goal

abbrev pub invariant-loop-name : goal.invariant-loop-name
invariant-loop-name l = states_in l.traces ≡ states_of (first_state (take l.name-index l.given))
