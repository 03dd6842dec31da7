use Rattle.std.proofs.Common.{Some}
use Rattle.memory_devices.specs.Nodes.{node_of}
use Rattle.memory_devices.proofs.Maps.{shown_put}
use Rattle.memory_devices.proofs.nodes.put_node.Goals as goal

pub returns-in-Ok-clause-ok : goal.returns-in-Ok-clause-ok
returns-in-Ok-clause-ok c = shown_put node_of c.args.nodes.now c.insert.new.self _ c.args.path.now (Some c.args.node) c.in-Ok.ensures.updates c.in_ok-key.ensures.ok
