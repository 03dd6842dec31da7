use Rattle.std.proofs.Common.{◌≡◌, take}
use Rattle.memory_devices.specs.Image.{positions_in, positions_at}
use Rattle.memory_devices.proofs.image.positions_of.Given as goal

abbrev pub invariant-loop-name : goal.invariant-loop-name
invariant-loop-name l = positions_in l.positions ≡ positions_at (take l.name-index l.choice)
