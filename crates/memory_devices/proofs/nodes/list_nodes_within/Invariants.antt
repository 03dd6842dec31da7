use Rattle.std.proofs.Common.{◌≡◌, ◌++◌, map, string_bytes}
use Rattle.memory_devices.proofs.Trees.{within_listed}
use Rattle.memory_devices.proofs.nodes.list_nodes_within.Given as goal

abbrev pub invariant-loop-path : goal.invariant-loop-path
invariant-loop-path l = map (λ s. (string_bytes s.path, s.node)) l.seen.items ++ within_listed l.folder l.path-iterator ≡ within_listed l.folder l.nodes.entries
