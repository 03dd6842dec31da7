use Rattle.std.proofs.Common.{◌≡◌, true, take}
use Rattle.memory_devices.specs.Replay.{states_in}
use Rattle.memory_devices.specs.Image.{are_unsynced}
use Rattle.memory_devices.proofs.image.all_unsynced.Given as goal

abbrev pub invariant-loop-name : goal.invariant-loop-name
invariant-loop-name l = are_unsynced (states_in l.traces) (take l.name-index l.names) ≡ true
