use Rattle.std.proofs.Common.{None}
use Rattle.memory_devices.specs.Nodes.{node_of}
use Rattle.memory_devices.proofs.Maps.{shown_set}
use Rattle.memory_devices.proofs.nodes.take_node.Goals as goal

pub returns : goal.returns
returns c = shown_set node_of c.args.nodes.now c.remove.new.self c.args.path.now None c.remove.ensures.updates
