use Rattle.restore_steps.proofs.Filing.{put_tidy, open_tidy}
use Rattle.restore_steps.proofs.contents.files.end_file.Goals as goal

pub returns-clause-tidy : goal.returns-clause-tidy
returns-clause-tidy g c = λ right. put_tidy c.args.file.now.wanted.path.now c.args.file.now.wanted.time (g.T.DataFolder.state c.args.tree.now).nodes (g.T.DataFolder.state c.put_in_place.new.tree).nodes c.in_ok-put_in_place.ensures.put
