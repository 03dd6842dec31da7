use Rattle.std.proofs.Common.{◌≡◌, Option, Some, None, ap, sym, ◌∙◌, rules}
use Rattle.base_devices.specs.DataFolder.{Held, with_node, with_time}
use Rattle.memory_devices.specs.Nodes.{nodes_at, node_of}
use Rattle.memory_devices.proofs.Maps.{shown_set, set_held}
use Rattle.memory_devices.proofs.nodes.set_file_time.Goals as goal

pub returns-in-Some : goal.returns-in-Some
returns-in-Some c =
    let w = c.set_node_time.new.node in
    let f = nodes_at c.args.nodes.now in
    let path = c.args.path.now in
    let had : f path ≡ Some (node_of c.in-Some.node.now) = search rules in
    shown_set node_of c.args.nodes.now (c.get_mut.follows.lender w) path (Some w) ((c.get_mut.follows.holds w).3 (search rules))
    ∙ ap (λ (o : Option Held). with_node path o f) c.set_node_time.ensures
    ∙ ap (λ (o : Option Held). with_node path (with_time c.args.time o) f) (sym had)

pub returns-in_default : goal.returns-in_default
returns-in_default c =
    let f = nodes_at c.args.nodes.now in
    let path = c.args.path.now in
    let none : f path ≡ None = search rules in
    let same : nodes_at c.get_mut.follows.lender-at-none ≡ f = search rules in
    same ∙ sym (ap (λ (o : Option Held). with_node path (with_time c.args.time o) f) none ∙ set_held path None f none)
