use Rattle.std.proofs.Common.{subst, sym}
use Rattle.base_devices.specs.DataFolder.{Nodes}
use Rattle.memory_devices.specs.Nodes.{nodes_at, Rooted}
use Rattle.memory_devices.proofs.Rooted.{timed_rooted}
use Rattle.memory_devices.proofs.tree.MemDataFolderDataFolder.set_time.Goals as goal

pub invariant_of-self-2 : goal.invariant_of-self-2
invariant_of-self-2 c =
    let f = nodes_at c.args.self.now.nodes in
    record { rooted = subst (λ (g : Nodes). Rooted g) (sym c.set_file_time.ensures) (timed_rooted f c.args.path.now c.args.time c.args.self.now.rooted) }
