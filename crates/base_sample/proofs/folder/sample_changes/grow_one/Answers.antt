use Rattle.std.proofs.Common.{[], ◌∷◌, ◌∙◌}
use Rattle.base_sample.specs.Bytes.{relation_path}
use Rattle.base_sample.proofs.Changed.{grown_one}
use Rattle.base_sample.proofs.Paths.{relation_out}
use Rattle.base_sample.proofs.folder.sample_changes.grow_one.Goals as goal

pub returns-clause-grown : goal.returns-clause-grown
returns-clause-grown g c = grown_one (relation_path c.args.place) c.deref.result.now (0 ∷ []) c.append.result
    (g.T.DataFolder.state c.args.tree.now).nodes (g.T.DataFolder.state c.append.new.self).nodes
    (c.deref.ensures ∙ c.in_ok-path.ensures) (relation_out c.args.place c.requires) c.append.ensures.nodes
