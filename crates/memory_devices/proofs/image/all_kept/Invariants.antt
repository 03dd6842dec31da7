use Rattle.std.proofs.Common.{◌≡◌, true, take}
use Rattle.memory_devices.specs.Replay.{states_in}
use Rattle.memory_devices.specs.Image.{are_kept}
use Rattle.memory_devices.proofs.image.all_kept.Given as goal

abbrev pub invariant-loop-name : goal.invariant-loop-name
invariant-loop-name l = are_kept (states_in l.traces) (take l.name-index l.choice) ≡ true
