use Rattle.std.proofs.Common.{◌≡◌, true, rules, sym, subst}
use Rattle.memory_devices.specs.Nodes.{nodes_at, holds_nothing, Rooted}
use Rattle.memory_devices.proofs.Bare.{bare_from}
use Rattle.memory_devices.proofs.Rooted.{take_rooted}
use Rattle.memory_devices.proofs.tree.MemDataFolderDataFolder.remove.Goals as goal

pub invariant_of-self-2 : goal.invariant_of-self-2
invariant_of-self-2 c =
    let f = nodes_at c.args.self.now.nodes in
    let path = c.args.path.now in
    let nothing : holds_nothing path c.args.self.now.nodes ≡ true = search rules in
    record { rooted = subst Rooted (sym c.take_node.ensures) (take_rooted f path c.args.self.now.rooted (bare_from c.args.self.now.nodes path nothing)) }
