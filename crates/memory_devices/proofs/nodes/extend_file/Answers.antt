use Rattle.std.proofs.Common.{◌≡◌, Option, Some, None, ap, sym, ◌∙◌, rules}
use Rattle.std.specs.Prelude.{option_map}
use Rattle.base_devices.specs.DataFolder.{Held, with_node}
use Rattle.memory_devices.specs.Nodes.{nodes_at, node_of, longer_node}
use Rattle.memory_devices.proofs.Maps.{shown_set, set_held}
use Rattle.memory_devices.proofs.Results.{on_err}
use Rattle.memory_devices.proofs.nodes.extend_file.Goals as goal

pub returns-in_ok-extend_node-in-Some-clause-ok : goal.returns-in_ok-extend_node-in-Some-clause-ok
returns-in_ok-extend_node-in-Some-clause-ok c =
    let w = c.extend_node.new.node in
    let f = nodes_at c.args.nodes.now in
    let path = c.args.path.now in
    let more = c.args.more.now in
    let had : f path ≡ Some (node_of c.in-Some.node.now) = search rules in
    shown_set node_of c.args.nodes.now (c.get_mut.follows.lender w) path (Some w) ((c.get_mut.follows.holds w).3 (search rules))
    ∙ ap (λ (h : Held). with_node path (Some h) f) c.in_ok-extend_node-in-Some.ensures.ok
    ∙ ap (λ (o : Option Held). with_node path (option_map (longer_node more) o) f) (sym had)

pub returns-in_err-extend_node-in-Some-clause-err : goal.returns-in_err-extend_node-in-Some-clause-err
returns-in_err-extend_node-in-Some-clause-err c =
    let w = c.extend_node.new.node in
    let f = nodes_at c.args.nodes.now in
    let path = c.args.path.now in
    let had : f path ≡ Some (node_of c.in-Some.node.now) = search rules in
    on_err c.from_residual.result (shown_set node_of c.args.nodes.now (c.get_mut.follows.lender w) path (Some w) ((c.get_mut.follows.holds w).3 (search rules))
    ∙ ap (λ (h : Held). with_node path (Some h) f) c.in_err-extend_node-in-Some.ensures.err
    ∙ set_held path (Some (node_of c.in-Some.node.now)) f had)

pub returns-in-None-clause-ok : goal.returns-in-None-clause-ok
returns-in-None-clause-ok c =
    let f = nodes_at c.args.nodes.now in
    let path = c.args.path.now in
    let none : f path ≡ None = search rules in
    let same : nodes_at c.get_mut.follows.lender-at-none ≡ f = search rules in
    same ∙ sym (ap (λ (o : Option Held). with_node path (option_map (longer_node c.args.more.now) o) f) none ∙ set_held path None f none)
