use Rattle.std.proofs.Common.{◌≡◌, take}
use Rattle.memory_devices.specs.Agrees.{bytes_at}
use Rattle.memory_devices.specs.State.{given_at}
use Rattle.memory_devices.proofs.held.names_of.Given as goal

abbrev pub invariant-loop-name : goal.invariant-loop-name
invariant-loop-name l = bytes_at l.names ≡ given_at (take l.name-index l.given)
