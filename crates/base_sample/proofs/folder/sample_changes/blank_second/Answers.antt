use Rattle.std.proofs.Common.{◌∙◌, sym, subst, arith}
use Rattle.base_devices.specs.DataFolder.{IsPlaced}
use Rattle.base_model.specs.Text.{Text}
use Rattle.base_sample.specs.Bytes.{relation_path, zeros}
use Rattle.base_sample.proofs.Changed.{put_one}
use Rattle.base_sample.proofs.Holding.{relation_is_placed}
use Rattle.base_sample.proofs.Paths.{relation_out}
use Rattle.base_sample.proofs.folder.sample_changes.blank_second.Goals as goal

pub returns-clause-blanked : goal.returns-clause-blanked
returns-clause-blanked g c = put_one (relation_path 1) c.deref.result.now (zeros 512) c.deref-2.result.now c.write_file.result
    (g.T.DataFolder.state c.args.tree.now).nodes (g.T.DataFolder.state c.write_file.new.tree).nodes
    (c.deref.ensures ∙ c.in_ok-path.ensures) (c.deref-2.ensures.value ∙ c.in_ok-bytes.ensures) (relation_out 1 (omega arith))
    c.write_file.ensures.has c.write_file.ensures.others

pub returns-clause-proper : goal.returns-clause-proper
returns-clause-proper g c = λ d had. c.write_file.ensures.proper
    (subst (λ (t : Text). IsPlaced (g.T.DataFolder.state c.args.tree.now).nodes t) (sym (c.deref.ensures ∙ c.in_ok-path.ensures))
    (relation_is_placed d 1 (g.T.DataFolder.state c.args.tree.now).nodes (omega arith) had))
