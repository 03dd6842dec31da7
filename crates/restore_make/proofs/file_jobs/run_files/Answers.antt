use Rattle.std.proofs.Common.{◌≡◌, ◌∙◌, sym, ap, subst, map, List}
use Rattle.worker_protocol.specs.Views.{job_of}
use Rattle.worker_pool.specs.Run.{AllDone}
use Rattle.restore_steps.specs.declared.contents.files.Wanted.{Wanted}
use Rattle.restore_steps.specs.declared.contents.files.Filed.{Filed}
use Rattle.restore_steps.specs.Files.{kept_of, wanted_of, AllTidy}
use Rattle.restore_steps.specs.Keeping.{IsNoneOf, HaveFolders}
use Rattle.worker_pool.proofs.Links.{left_is}
use Rattle.restore_make.proofs.Writes.{one_item, all_written}
use Rattle.restore_make.proofs.file_jobs.run_files.Goals as goal

pub new-requires-clause-one : goal.new-requires-clause-one
new-requires-clause-one g c = λ j job is. one_item c.args.asked.now.wanted.now (map job_of c.args.asked.now.jobs.now) c.requires.jobs j job is

pub returns-in_err-run_jobs-clause-others : goal.returns-in_err-run_jobs-clause-others
returns-in_err-run_jobs-clause-others g c = λ q none. c.run_jobs.ensures.later.others q (subst (λ (ws : List Wanted). IsNoneOf ws q) (sym c.in_ok-keep.ensures.wanted) none)

pub returns-in_err-run_jobs-clause-proper : goal.returns-in_err-run_jobs-clause-proper
returns-in_err-run_jobs-clause-proper g c = λ have. c.run_jobs.ensures.later.proper (subst (λ (ws : List Wanted). HaveFolders ws (g.T.DataFolder.state c.args.tree.now).nodes) (sym c.in_ok-keep.ensures.wanted) have)

pub returns-clause-proper : goal.returns-clause-proper
returns-clause-proper g c = λ have. c.run_jobs.ensures.later.proper (subst (λ (ws : List Wanted). HaveFolders ws (g.T.DataFolder.state c.args.tree.now).nodes) (sym c.in_ok-keep.ensures.wanted) have)

pub returns-clause-others : goal.returns-clause-others
returns-clause-others g c = λ q none. c.run_jobs.ensures.later.others q (subst (λ (ws : List Wanted). IsNoneOf ws q) (sym c.in_ok-keep.ensures.wanted) none)

pub returns-clause-written : goal.returns-clause-written
returns-clause-written g c =
    let links = map g.L.Link.link_state c.args.pool.now.links.items in
    let new = (g.T.DataFolder.state c.run_jobs.new.on).nodes in
    let jobs = map job_of c.args.asked.now.jobs.now in
    let files : c.into_files.result.items ≡ c.run_jobs.new.keep.files.items = ap (λ v. v.items) c.into_files.ensures in
    all_written links new jobs c.args.asked.now.wanted.now c.into_files.result.items
    (ap (map wanted_of) files ∙ c.run_jobs.ensures.later.wanted ∙ c.in_ok-keep.ensures.wanted)
    c.requires.jobs
    (subst (λ (l : List Filed). AllDone jobs links (map (kept_of new) l)) (sym files) c.in_ok-run_jobs.ensures.done)
    (subst (AllTidy new) (sym files) c.in_ok-run_jobs.ensures.agrees.tidy)

pub returns-clause-left : goal.returns-clause-left
returns-clause-left g c = left_is (map job_of c.args.asked.now.jobs.now) (map g.L.Link.link_state c.args.pool.now.links.items) c.args.pool.now.lost.items c.run_jobs.new.pool.lost.items (map g.L.Link.link_state c.run_jobs.new.pool.links.items) c.in_ok-run_jobs.ensures.left
