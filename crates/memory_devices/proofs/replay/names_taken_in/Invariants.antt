use Rattle.std.proofs.Common.{◌≡◌, ◌++◌, map, string_bytes}
use Rattle.memory_devices.specs.State.{takes_in}
use Rattle.memory_devices.specs.Replay.{names_under}
use Rattle.memory_devices.proofs.replay.names_taken_in.Given as goal

abbrev pub invariant-loop-name : goal.invariant-loop-name
invariant-loop-name l = map string_bytes l.names.items ++ names_under (takes_in l.sweep l.folder) l.name-iterator ≡ names_under (takes_in l.sweep l.folder) l.traces.entries
