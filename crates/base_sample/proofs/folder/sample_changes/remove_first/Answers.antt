use Rattle.std.proofs.Common.{◌∙◌, sym, subst, arith}
use Rattle.base_devices.specs.DataFolder.{IsBare}
use Rattle.base_model.specs.Text.{Text}
use Rattle.base_sample.specs.Bytes.{relation_path}
use Rattle.base_sample.proofs.Changed.{removed_one, first_bare}
use Rattle.base_sample.proofs.Paths.{relation_out}
use Rattle.base_sample.proofs.folder.sample_changes.remove_first.Goals as goal

pub returns-clause-removed : goal.returns-clause-removed
returns-clause-removed g c = removed_one (relation_path 0) c.deref.result.now c.remove.result
    (g.T.DataFolder.state c.args.tree.now).nodes (g.T.DataFolder.state c.remove.new.self).nodes
    (c.deref.ensures ∙ c.in_ok-path.ensures) (relation_out 0 (omega arith)) c.remove.ensures.nodes

pub returns-clause-proper : goal.returns-clause-proper
returns-clause-proper g c = λ n few had. c.remove.ensures.proper
    (subst (λ (t : Text). IsBare (g.T.DataFolder.state c.args.tree.now).nodes t) (sym (c.deref.ensures ∙ c.in_ok-path.ensures))
    (first_bare n (g.T.DataFolder.state c.args.tree.now).nodes few had))
