use Rattle.std.proofs.Common.{map, length, subst, sym, arith, List, Option}
use Rattle.std.proofs.lemmas.List.{length-map}
use Rattle.worker_protocol.specs.Views.{job_of}
use Rattle.worker_protocol.specs.declared.sinks.ItemEnd.{ItemEnd}
use Rattle.worker_pool.specs.Holdings.{state_of}
use Rattle.worker_pool.specs.Digests.{AreEnds}
use Rattle.worker_pool.proofs.Digests.{are_ends, kept_long}
use Rattle.worker_pool.proofs.Links.{left_is}
use Rattle.worker_pool.proofs.digest_runs.digest_run.run_digests.Goals as goal

pub ends_of-requires : goal.ends_of-requires
ends_of-requires g c =
    let jobs = map job_of c.args.jobs.now in
    omega (arith, kept_long (map g.L.Link.link_state c.args.pool.now.links.items) jobs (state_of c.run_jobs.new.keep).kept c.in_ok-run_jobs.ensures.done, length-map c.args.jobs.now job_of)

pub returns-clause-ends : goal.returns-clause-ends
returns-clause-ends g c =
    let jobs = map job_of c.args.jobs.now in
    let links = map g.L.Link.link_state c.args.pool.now.links.items in
    subst (λ (ends : List (Option ItemEnd)). AreEnds links jobs ends) (sym c.in_ok-ends_of.ensures)
    (are_ends links jobs (state_of c.run_jobs.new.keep).kept (length c.args.jobs.now) (sym (length-map c.args.jobs.now job_of)) c.in_ok-run_jobs.ensures.done)

pub returns-clause-left : goal.returns-clause-left
returns-clause-left g c = left_is (map job_of c.args.jobs.now) (map g.L.Link.link_state c.args.pool.now.links.items) c.args.pool.now.lost.items c.run_jobs.new.pool.lost.items (map g.L.Link.link_state c.run_jobs.new.pool.links.items) c.in_ok-run_jobs.ensures.left
