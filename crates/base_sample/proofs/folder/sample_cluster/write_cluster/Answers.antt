use Rattle.std.proofs.Common.{◌∙◌, ◌*◌, Some}
use Rattle.base_devices.specs.Content.{put}
use Rattle.base_sample.specs.Bytes.{version_path, version_bytes}
use Rattle.base_sample.specs.Folder.{relations}
use Rattle.base_sample.specs.Having.{Has, nothing}
use Rattle.base_sample.proofs.Holding.{version_placed, version_out, control_placed, all_made, has_file}
use Rattle.base_sample.proofs.folder.sample_cluster.write_cluster.Goals as goal

pub returns-in_err-write_file-clause-proper : goal.returns-in_err-write_file-clause-proper
returns-in_err-write_file-clause-proper g c = λ had. c.write_file.ensures.proper (version_placed (g.T.DataFolder.state c.write_relations.new.tree).nodes) ∙ c.write_relations.ensures.proper had

pub returns-in_err-control-clause-proper : goal.returns-in_err-control-clause-proper
returns-in_err-control-clause-proper g c = λ had. c.write_file.ensures.proper (version_placed (g.T.DataFolder.state c.write_relations.new.tree).nodes) ∙ c.write_relations.ensures.proper had

pub returns-clause-made : goal.returns-clause-made
returns-clause-made g c = all_made (Has nothing (g.T.DataFolder.state c.args.tree.now).nodes) c.args.number c.deref.result.now c.write_file-2.result
    (g.T.DataFolder.state c.write_relations.new.tree).nodes (g.T.DataFolder.state c.write_file.new.tree).nodes (g.T.DataFolder.state c.write_file-2.new.tree).nodes
    (c.deref.ensures.value ∙ c.in_ok-control.ensures) c.in_ok-write_file.ensures.has c.write_file.ensures.others c.write_file-2.ensures.has c.write_file-2.ensures.others (λ had. c.in_ok-write_relations.ensures.has had)

pub returns-clause-proper : goal.returns-clause-proper
returns-clause-proper g c = λ had.
    c.write_file-2.ensures.proper (control_placed (put version_path (Some version_bytes) (relations (100 * c.args.number))) (g.T.DataFolder.state c.write_file.new.tree).nodes
    (has_file (relations (100 * c.args.number)) version_path version_bytes (g.T.DataFolder.state c.write_relations.new.tree).nodes (g.T.DataFolder.state c.write_file.new.tree).nodes version_out c.in_ok-write_file.ensures.has c.write_file.ensures.others (c.in_ok-write_relations.ensures.has had)))
    ∙ c.write_file.ensures.proper (version_placed (g.T.DataFolder.state c.write_relations.new.tree).nodes) ∙ c.write_relations.ensures.proper had
