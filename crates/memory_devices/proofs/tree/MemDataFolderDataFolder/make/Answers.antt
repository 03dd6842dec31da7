use Rattle.std.proofs.Common.{◌≡◌, true, Some, rules}
use Rattle.base_devices.specs.DataFolder.{folder, with_node}
use Rattle.memory_devices.specs.Nodes.{nodes_at, is_placed}
use Rattle.memory_devices.proofs.Rooted.{either_rooted, make_rooted}
use Rattle.memory_devices.proofs.tree.MemDataFolderDataFolder.make.Goals as goal

pub invariant_of-self-2 : goal.invariant_of-self-2
invariant_of-self-2 c =
    let f = nodes_at c.args.self.now.nodes in
    let path = c.args.folder.now in
    let placed : is_placed f path ≡ true = search rules in
    record { rooted = either_rooted c.put_node.result f (nodes_at c.put_node.new.nodes) (with_node path (Some folder) f) c.put_node.ensures.ok c.put_node.ensures.err c.args.self.now.rooted (make_rooted f path c.args.self.now.rooted placed) }
