use Rattle.std.proofs.Common.{take, map, string_bytes}
use Rattle.memory_devices.proofs.Through.{AreThrough}
use Rattle.memory_devices.proofs.held.folders_among.Given as goal

abbrev pub invariant-loop-name : goal.invariant-loop-name
invariant-loop-name l = AreThrough l.folder (take l.name-index l.found) (map string_bytes l.known.items)
