use Rattle.std.proofs.Common.{◌≡◌, ◌++◌, map, string_bytes}
use Rattle.memory_devices.specs.Image.{unsynced_names}
use Rattle.memory_devices.proofs.image.unsynced_in.Given as goal

abbrev pub invariant-loop-name : goal.invariant-loop-name
invariant-loop-name l = map string_bytes l.names.items ++ unsynced_names l.name-iterator ≡ unsynced_names l.traces.entries
