use Rattle.std.proofs.Common.{◌≡◌, ◌++◌}
use Rattle.memory_devices.specs.Agrees.{bytes_at}
use Rattle.memory_devices.specs.Image.{named, left_names, positions_in}
use Rattle.memory_devices.proofs.image.left_in.Given as goal

abbrev pub invariant-loop-name : goal.invariant-loop-name
invariant-loop-name l = named l.names.items ++ left_names (positions_in l.positions) (bytes_at l.given) l.name-iterator ≡ left_names (positions_in l.positions) (bytes_at l.given) l.traces.entries
