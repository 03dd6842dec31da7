use Rattle.std.proofs.Common.{◌≡◌, take, ◌++◌}
use Rattle.base_devices.specs.Links.{last_five}
use Rattle.adapters_process.specs.Tail.{tail_of}
use Rattle.adapters_process.proofs.workers.tail.Tail.add.Given as goal

abbrev pub invariant-loop-byte : goal.invariant-loop-byte
invariant-loop-byte l = tail_of l.self ≡ last_five (tail_of l.initial.self ++ take l.byte-index l.last)
