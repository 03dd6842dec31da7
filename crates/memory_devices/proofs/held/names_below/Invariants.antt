use Rattle.std.proofs.Common.{◌≡◌, ◌++◌, map, string_bytes, length}
use Rattle.base_devices.specs.Content.{is_below}
use Rattle.memory_devices.proofs.Listing.{listed}
use Rattle.memory_devices.proofs.NamesBelow.{below_listed}
use Rattle.memory_devices.proofs.held.names_below.Given as goal

abbrev pub invariant-loop-name : goal.invariant-loop-name
invariant-loop-name l = map (λ x. (string_bytes x.name, x.size)) l.found.items ++ listed (is_below l.folder) (λ v. length v.items) l.name-iterator ≡ below_listed l.folder l.names
