use Rattle.std.proofs.Common.{◌≡◌, ◌++◌, map, string_bytes}
use Rattle.memory_devices.proofs.Trees.{shown_entry}
use Rattle.memory_devices.proofs.nodes.list_nodes.Given as goal

abbrev pub invariant-loop-path : goal.invariant-loop-path
invariant-loop-path l = map (λ s. (string_bytes s.path, s.node)) l.seen.items ++ map shown_entry l.path-iterator ≡ map shown_entry l.nodes.entries
