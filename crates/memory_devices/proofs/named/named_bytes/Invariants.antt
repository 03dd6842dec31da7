use Rattle.std.proofs.Common.{◌≡◌, map, take}
use Rattle.memory_devices.specs.Image.{named}
use Rattle.memory_devices.proofs.named.named_bytes.Given as goal

abbrev pub invariant-loop-name : goal.invariant-loop-name
invariant-loop-name l = named l.given.items ≡ map (λ x. (x.0.now, x.1.now)) (take l.name-index l.names)
