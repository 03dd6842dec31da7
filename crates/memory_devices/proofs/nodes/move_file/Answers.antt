use Rattle.std.proofs.Common.{bytes_eq, cond, None, Option, sym, ◌∙◌, ap}
use Rattle.base_devices.specs.DataFolder.{Held, Nodes, with_node}
use Rattle.memory_devices.specs.Nodes.{nodes_at}
use Rattle.memory_devices.proofs.Maps.{moved_split}
use Rattle.memory_devices.proofs.nodes.move_file.Goals as goal

pub returns-clause-ok : goal.returns-clause-ok
returns-clause-ok c =
    let from = c.args.from.now in
    let to = c.args.to.now in
    let f = nodes_at c.args.nodes.now in
    c.take_other.ensures
    ∙ ap (λ (g : Nodes). cond (bytes_eq from to) g (with_node from None g)) (c.in_ok-put_node.ensures.ok ∙ ap (λ (v : Option Held). with_node to v f) (sym c.in_ok-node.ensures))
    ∙ moved_split None from to f
