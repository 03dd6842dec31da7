use Rattle.base_model.specs.Values.{file_entry_of}
use Rattle.restore_make.proofs.KeptTimes.{none_timed, one_timed, one_others, one_there}
use Rattle.restore_make.proofs.kept_times.time_one.Goals as goal

pub returns-then-not-kept-clause-timed : goal.returns-then-not-kept-clause-timed
returns-then-not-kept-clause-timed g c = none_timed (file_entry_of c.args.file.now) c.args.kept (g.T.DataFolder.state c.args.tree.now).nodes c.if-not-kept.true

pub returns-clause-timed : goal.returns-clause-timed
returns-clause-timed g c = one_timed c.set_time.result (file_entry_of c.args.file.now) c.args.kept c.deref.result.now (g.T.DataFolder.state c.args.tree.now).nodes (g.T.DataFolder.state c.set_time.new.self).nodes c.if-not-kept.false c.deref.ensures c.set_time.ensures.nodes

pub returns-clause-others : goal.returns-clause-others
returns-clause-others g c = one_others c.set_time.result (file_entry_of c.args.file.now) c.args.kept c.deref.result.now (g.T.DataFolder.state c.args.tree.now).nodes (g.T.DataFolder.state c.set_time.new.self).nodes c.if-not-kept.false c.deref.ensures c.set_time.ensures.nodes

pub returns-clause-proper : goal.returns-clause-proper
returns-clause-proper g c = λ there. c.set_time.ensures.proper (one_there (file_entry_of c.args.file.now) c.args.kept c.deref.result.now (g.T.DataFolder.state c.args.tree.now).nodes c.if-not-kept.false c.deref.ensures there)
