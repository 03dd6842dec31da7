use Rattle.std.proofs.Common.{◌∙◌, inl, inr, codes, Some}
use Rattle.base_devices.specs.DataFolder.{folder}
use Rattle.base_sample.specs.Folder.{sample_folders}
use Rattle.base_sample.proofs.Holding.{base_placed, five_placed, global_placed, folders_made, changed_other}
use Rattle.base_sample.proofs.folder.sample_cluster.make_folders.Goals as goal

pub returns-in_err-make-clause-proper : goal.returns-in_err-make-clause-proper
returns-in_err-make-clause-proper g c = λ bare. c.make.ensures.proper (base_placed (g.T.DataFolder.state c.args.tree.now).nodes)

pub returns-in_err-make-2-clause-others : goal.returns-in_err-make-2-clause-others
unfolding sample_folders
returns-in_err-make-2-clause-others g c = λ q off.
    changed_other (codes "base/5") (Some folder) q c.make-2.result (g.T.DataFolder.state c.make.new.self).nodes (g.T.DataFolder.state c.make-2.new.self).nodes c.make-2.ensures.nodes (λ e. off (inr (inl e)))
    ∙ changed_other (codes "base") (Some folder) q c.make.result (g.T.DataFolder.state c.args.tree.now).nodes (g.T.DataFolder.state c.make.new.self).nodes c.make.ensures.nodes (λ e. off (inl e))

pub returns-in_err-make-2-clause-proper : goal.returns-in_err-make-2-clause-proper
returns-in_err-make-2-clause-proper g c = λ bare.
    c.make-2.ensures.proper (five_placed (g.T.DataFolder.state c.args.tree.now).nodes (g.T.DataFolder.state c.make.new.self).nodes c.in_ok-make.ensures.nodes)
    ∙ c.make.ensures.proper (base_placed (g.T.DataFolder.state c.args.tree.now).nodes)

pub returns-clause-made : goal.returns-clause-made
returns-clause-made g c = folders_made c.make-3.result (g.T.DataFolder.state c.args.tree.now).nodes (g.T.DataFolder.state c.make.new.self).nodes (g.T.DataFolder.state c.make-2.new.self).nodes (g.T.DataFolder.state c.make-3.new.self).nodes c.in_ok-make.ensures.nodes c.in_ok-make-2.ensures.nodes c.make-3.ensures.nodes

pub returns-clause-others : goal.returns-clause-others
unfolding sample_folders
returns-clause-others g c = λ q off.
    changed_other (codes "global") (Some folder) q c.make-3.result (g.T.DataFolder.state c.make-2.new.self).nodes (g.T.DataFolder.state c.make-3.new.self).nodes c.make-3.ensures.nodes (λ e. off (inr (inr (inl e))))
    ∙ changed_other (codes "base/5") (Some folder) q c.make-2.result (g.T.DataFolder.state c.make.new.self).nodes (g.T.DataFolder.state c.make-2.new.self).nodes c.make-2.ensures.nodes (λ e. off (inr (inl e)))
    ∙ changed_other (codes "base") (Some folder) q c.make.result (g.T.DataFolder.state c.args.tree.now).nodes (g.T.DataFolder.state c.make.new.self).nodes c.make.ensures.nodes (λ e. off (inl e))

pub returns-clause-proper : goal.returns-clause-proper
returns-clause-proper g c = λ bare.
    c.make-3.ensures.proper (global_placed (g.T.DataFolder.state c.make-2.new.self).nodes)
    ∙ c.make-2.ensures.proper (five_placed (g.T.DataFolder.state c.args.tree.now).nodes (g.T.DataFolder.state c.make.new.self).nodes c.in_ok-make.ensures.nodes)
    ∙ c.make.ensures.proper (base_placed (g.T.DataFolder.state c.args.tree.now).nodes)
