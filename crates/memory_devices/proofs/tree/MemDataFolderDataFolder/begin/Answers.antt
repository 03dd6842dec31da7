use Rattle.std.proofs.Common.{◌≡◌, true, Some, rules}
use Rattle.base_devices.specs.DataFolder.{with_node}
use Rattle.memory_devices.specs.Nodes.{nodes_at, node_of, is_placed, takes_file}
use Rattle.memory_devices.proofs.Rooted.{either_rooted, begin_rooted}
use Rattle.memory_devices.proofs.tree.MemDataFolderDataFolder.begin.Goals as goal

pub invariant_of-self-2 : goal.invariant_of-self-2
invariant_of-self-2 c =
    let f = nodes_at c.args.self.now.nodes in
    let path = c.args.path.now in
    let placed : is_placed f path ≡ true = search rules in
    let takes : takes_file (f path) ≡ true = search rules in
    record { rooted = either_rooted c.put_node.result f (nodes_at c.put_node.new.nodes) (with_node path (Some (node_of c.empty_file-empty.result)) f) c.put_node.ensures.ok c.put_node.ensures.err c.args.self.now.rooted (begin_rooted f path (node_of c.empty_file-empty.result) c.args.self.now.rooted placed takes) }
