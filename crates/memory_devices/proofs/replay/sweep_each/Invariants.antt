use Rattle.std.proofs.Common.{◌≡◌, take}
use Rattle.memory_devices.specs.Replay.{states_in, each_swept}
use Rattle.memory_devices.proofs.replay.sweep_each.Given as goal

abbrev pub invariant-loop-name : goal.invariant-loop-name
invariant-loop-name l = states_in l.traces ≡ each_swept l.sweep (take l.name-index l.names) (states_in l.fn.traces)
