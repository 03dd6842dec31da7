use Rattle.std.proofs.Common.{map, subst, List}
use Rattle.std.proofs.lemmas.Result.{on_ok_weaker, IfErr-weaker}
use Rattle.worker_protocol.specs.Views.{job_of}
use Rattle.restore_steps.specs.declared.contents.files.Filed.{Filed}
use Rattle.restore_make.specs.Written.{AllRight}
use Rattle.restore_make.specs.Faults.{ShowsWrong}
use Rattle.restore_make.proofs.Checked.{all_fetched, checked_fails}
use Rattle.restore_make.proofs.file_writes.write_files.Goals as goal

pub returns-in-Ok-clause-fetched : goal.returns-in-Ok-clause-fetched
returns-in-Ok-clause-fetched g c =
    let links = map g.L.Link.link_state c.args.pool.now.links.items in
    let new = (g.T.DataFolder.state c.run_files.new.tree).nodes in
    on_ok_weaker c.check_files.result
    (λ right. all_fetched links new (map job_of c.args.asked.now.jobs.now) c.args.asked.now.wanted.now c.in-Ok.files.items c.in-Ok.ensures.written (subst (λ (fs : List Filed). AllRight fs) c.deref.ensures.value right))
    c.check_files.ensures.right

pub returns-in-Ok-clause-fault : goal.returns-in-Ok-clause-fault
returns-in-Ok-clause-fault g c =
    let links = map g.L.Link.link_state c.args.pool.now.links.items in
    let new = (g.T.DataFolder.state c.run_files.new.tree).nodes in
    IfErr-weaker c.check_files.result _ _
    (λ e wrong. checked_fails links new (map job_of c.args.asked.now.jobs.now) c.args.asked.now.wanted.now c.in-Ok.files.items c.in-Ok.ensures.written c.requires.jobs (map g.L.Link.link_state c.run_files.new.pool.links.items) c.args.pool.now.lost.items c.run_files.new.pool.lost.items (g.T.DataFolder.state c.args.tree.now).faults (g.T.DataFolder.state c.run_files.new.tree).faults e
    (subst (λ (fs : List Filed). ShowsWrong fs e) c.deref.ensures.value wrong))
    c.check_files.ensures.wrong
