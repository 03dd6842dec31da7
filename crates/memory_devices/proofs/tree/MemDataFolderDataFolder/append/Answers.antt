use Rattle.std.specs.Prelude.{option_map}
use Rattle.base_devices.specs.DataFolder.{with_node}
use Rattle.memory_devices.specs.Nodes.{nodes_at, longer_node}
use Rattle.memory_devices.proofs.Rooted.{either_rooted, longer_rooted}
use Rattle.memory_devices.proofs.tree.MemDataFolderDataFolder.append.Goals as goal

pub invariant_of-self-2 : goal.invariant_of-self-2
invariant_of-self-2 c =
    let f = nodes_at c.args.self.now.nodes in
    let path = c.args.path.now in
    let more = c.args.bytes.now in
    record { rooted = either_rooted c.extend_file.result f (nodes_at c.extend_file.new.nodes) (with_node path (option_map (longer_node more) (f path)) f) c.extend_file.ensures.ok c.extend_file.ensures.err c.args.self.now.rooted (longer_rooted f path more c.args.self.now.rooted) }
