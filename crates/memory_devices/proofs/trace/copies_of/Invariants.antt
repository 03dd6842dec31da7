use Rattle.std.proofs.Common.{◌≡◌, take, map}
use Rattle.memory_devices.specs.Replay.{value_of}
use Rattle.memory_devices.proofs.trace.copies_of.Given as goal

abbrev pub invariant-loop-value : goal.invariant-loop-value
invariant-loop-value l = map value_of l.copies.items ≡ map value_of (take l.value-index l.values)
