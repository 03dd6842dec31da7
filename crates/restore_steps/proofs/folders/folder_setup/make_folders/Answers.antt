use Rattle.std.proofs.Common.{◌≡◌, ◌+◌, ◌∙◌, sym, ap, subst, refl, arith, map, take, drop, add-one, ◌++◌, ◌∷◌, [], Some, List, option_map, string_bytes}
use Rattle.std.proofs.lemmas.List.{map-append}
use Rattle.base_devices.specs.DataFolder.{Nodes, folder, with_node, IsPlaced}
use Rattle.base_model.specs.Text.{Text, In}
use Rattle.restore_steps.specs.Clearing.{control_path, with_folders}
use Rattle.restore_steps.proofs.Cleared.{made_more}
use Rattle.restore_steps.proofs.Emptied.{in_list, made_other, placed_then, split_at}
use Rattle.restore_steps.proofs.Nodes.{none_changes}
use Rattle.restore_steps.proofs.Paths.{take_more}
use Rattle.restore_steps.proofs.folders.folder_setup.make_folders.Goals as goal

pub loop-folder-preserved : goal.loop-folder-preserved
loop-folder-preserved g c =
    let i = c.loop-folder.invariant in
    let n = c.loop-folder.folder-index in
    let fs = c.args.folders.now in
    let p = c.folder-item.result in
    let split = split_at string_bytes fs n (n + 1) p (add-one n) c.loop-folder-test.true c.folder-item.is in
    let prefix = map string_bytes (take n fs) in
    let back = map string_bytes (drop (n + 1) fs) in
    let name : c.deref.result.now ≡ string_bytes p = c.deref.ensures in
    let old = (g.T.DataFolder.state c.args.tree.now).nodes in
    let list : map string_bytes (take (n + 1) fs) ≡ map string_bytes (take n fs) ++ string_bytes p ∷ [] = ap (map string_bytes) (take_more fs n p c.loop-folder-test.true c.folder-item.is) ∙ map-append string_bytes (take n fs) (p ∷ []) in
    let made = made_more (map string_bytes (take n fs)) (string_bytes p) old (g.T.DataFolder.state c.loop-folder.tree).nodes (g.T.DataFolder.state c.make.new.self).nodes i.made (c.in_ok-make.ensures.nodes ∙ ap (λ (t : Text). option_map (with_node t (Some folder)) (g.T.DataFolder.state c.loop-folder.tree).nodes) c.deref.ensures) in
    record {
      made = made ∙ ap (λ (l : List Text). option_map (with_folders l) old) (sym list);
      others = λ q none. made_other c.make.result c.deref.result.now q (g.T.DataFolder.state c.loop-folder.tree).nodes (g.T.DataFolder.state c.make.new.self).nodes c.make.ensures.nodes (λ e. none (subst (λ (t : Text). In t (map string_bytes fs)) (sym (e ∙ name)) (in_list (map string_bytes fs) prefix back (string_bytes p) split))) ∙ i.others q none;
      control = λ was. none_changes c.make.result control_path c.deref.result.now (Some folder) (g.T.DataFolder.state c.loop-folder.tree).nodes (g.T.DataFolder.state c.make.new.self).nodes refl c.make.ensures.nodes (i.control was);
      proper = λ order theirs. c.make.ensures.proper (subst (IsPlaced (g.T.DataFolder.state c.loop-folder.tree).nodes) (sym name) (placed_then (map string_bytes fs) prefix back (string_bytes p) old (g.T.DataFolder.state c.loop-folder.tree).nodes split order theirs i.made)) ∙ i.proper order theirs;
      opened = c.make.ensures.opened ∙ i.opened;
      later = omega (arith, i.later, c.make.ensures.cause.later);
    }

pub returns-in_err-make-clause-others : goal.returns-in_err-make-clause-others
returns-in_err-make-clause-others g c =
    let i = c.loop-folder.invariant in
    let n = c.loop-folder.folder-index in
    let fs = c.args.folders.now in
    let p = c.folder-item.result in
    let split = split_at string_bytes fs n (n + 1) p (add-one n) c.loop-folder-test.true c.folder-item.is in
    λ q none.
    made_other c.make.result c.deref.result.now q (g.T.DataFolder.state c.loop-folder.tree).nodes (g.T.DataFolder.state c.make.new.self).nodes c.make.ensures.nodes
    (λ e. none (subst (λ (t : Text). In t (map string_bytes fs)) (sym (e ∙ c.deref.ensures)) (in_list (map string_bytes fs) (map string_bytes (take n fs)) (map string_bytes (drop (n + 1) fs)) (string_bytes p) split)))
    ∙ i.others q none

pub returns-in_err-make-clause-proper : goal.returns-in_err-make-clause-proper
returns-in_err-make-clause-proper g c =
    let i = c.loop-folder.invariant in
    let n = c.loop-folder.folder-index in
    let fs = c.args.folders.now in
    let p = c.folder-item.result in
    let split = split_at string_bytes fs n (n + 1) p (add-one n) c.loop-folder-test.true c.folder-item.is in
    λ order theirs.
    c.make.ensures.proper
    (subst (IsPlaced (g.T.DataFolder.state c.loop-folder.tree).nodes) (sym c.deref.ensures)
    (placed_then (map string_bytes fs) (map string_bytes (take n fs)) (map string_bytes (drop (n + 1) fs)) (string_bytes p) (g.T.DataFolder.state c.args.tree.now).nodes (g.T.DataFolder.state c.loop-folder.tree).nodes split order theirs i.made))
    ∙ i.proper order theirs
