use Rattle.std.proofs.Common.{◌≡◌}
use Rattle.memory_devices.specs.Nodes.{nodes_at, tree_at}
use Rattle.memory_devices.proofs.nodes.map_of.Given as goal

abbrev pub invariant-loop-path : goal.invariant-loop-path
invariant-loop-path l = nodes_at l.nodes ≡ tree_at l.yielded
