use Rattle.std.proofs.Common.{◌≡◌, true, false, rules}
use Rattle.base_devices.specs.DataFolder.{moved_node}
use Rattle.memory_devices.specs.Nodes.{nodes_at, is_file, is_folder, is_placed}
use Rattle.memory_devices.proofs.Rooted.{either_rooted, move_rooted}
use Rattle.memory_devices.proofs.tree.MemDataFolderDataFolder.rename.Goals as goal

pub invariant_of-self-2 : goal.invariant_of-self-2
invariant_of-self-2 c =
    let f = nodes_at c.args.self.now.nodes in
    let from = c.args.from.now in
    let to = c.args.to.now in
    let source : is_file (f from) ≡ true = search rules in
    let placed : is_placed f to ≡ true = search rules in
    let target : is_folder (f to) ≡ false = search rules in
    record { rooted = either_rooted c.move_file.result f (nodes_at c.move_file.new.nodes) (moved_node from to f) c.move_file.ensures.ok c.move_file.ensures.err c.args.self.now.rooted (move_rooted f from to c.args.self.now.rooted source placed target) }
