use Rattle.std.proofs.Common.{string_bytes, length, map, ap, arith, subst, sym, ◌∙◌}
use Rattle.std.proofs.lemmas.List.{length-map}
use Rattle.worker_protocol.specs.Views.{job_of}
use Rattle.backup_sink.specs.Keeping.{progress_of, IsPlan, Agrees}
use Rattle.backup_sink.specs.Keeper.{names_of, progress_in}
use Rattle.backup_sink.proofs.Fresh.{fresh_keeps, fresh_agrees}
use Rattle.backup_sink.proofs.Places.{sealed_placed}
use Rattle.backup_make.proofs.Unreads.{unread_of, job_within, item_within, unread_item}
use Rattle.backup_make.proofs.backup_bytes.store.Goals as goal

pub run_jobs-requires-clause-empty : goal.run_jobs-requires-clause-empty
run_jobs-requires-clause-empty g c = λ j lt.
    let k = c.in_ok-keep.keep in
    fresh_keeps (names_of k) (progress_in k) (g.D.Disk.state c.args.d.now).view.now j c.in_ok-keep.ensures.empty
    (omega (arith, k.same_states, k.states.ok, length-map k.states.items progress_of, length-map k.names.now string_bytes))
    (omega (arith, lt, length-map c.args.jobs.now job_of, c.requires.same, ap length c.in_ok-keep.ensures.names, length-map c.args.names.now string_bytes))

pub run_jobs-requires-clause-agrees : goal.run_jobs-requires-clause-agrees
run_jobs-requires-clause-agrees g c = let k = c.in_ok-keep.keep in fresh_agrees (names_of k) (progress_in k) (g.D.Disk.state c.args.d.now).view.now c.in_ok-keep.ensures.empty

pub returns-in-Ok-clause-placed : goal.returns-in-Ok-clause-placed
returns-in-Ok-clause-placed g c =
    let k = c.run_jobs.new.keep in
    let v = (g.D.Disk.state c.seal.new.d).view in
    let plan : IsPlan c.args.folder.now (names_of k) = subst (λ f. IsPlan f (names_of k)) (c.run_jobs.ensures.later.0.folder ∙ c.in_ok-keep.ensures.folder) k.plan in
    let agree : Agrees (names_of k) (progress_in k) v.now = subst (λ o. Agrees (names_of k) (progress_in k) o) (sym c.seal.ensures.now) c.in-Ok.ensures.agrees in
    sealed_placed c.args.folder.now (names_of k) (progress_in k) v plan agree c.in_ok-seal-in-Ok.ensures.sealed

pub bounds-jobs-job : goal.bounds-jobs-job
bounds-jobs-job g c =
    let links = map g.L.Link.link_state c.args.pool.now.links.items in
    let left = map g.L.Link.link_state c.run_jobs.new.pool.links.items in
    let u = unread_of (map job_of c.args.jobs.now) c.in-Err-Unread.field-0 c.in-Err-Unread.job c.in-Err-Unread.item links left c.args.pool.now.lost.items c.run_jobs.new.pool.lost.items c.in_ok-keep.keep.faults c.run_jobs.new.keep.faults c.in-Err-Unread.field-0-is c.in-Err-Unread.ensures.fault in
    job_within c.args.jobs.now links left c.args.pool.now.lost.items c.in-Err-Unread.job c.in-Err-Unread.item u

pub path_at-requires : goal.path_at-requires
path_at-requires g c =
    let links = map g.L.Link.link_state c.args.pool.now.links.items in
    let left = map g.L.Link.link_state c.run_jobs.new.pool.links.items in
    let u = unread_of (map job_of c.args.jobs.now) c.in-Err-Unread.field-0 c.in-Err-Unread.job c.in-Err-Unread.item links left c.args.pool.now.lost.items c.run_jobs.new.pool.lost.items c.in_ok-keep.keep.faults c.run_jobs.new.keep.faults c.in-Err-Unread.field-0-is c.in-Err-Unread.ensures.fault in
    item_within c.args.jobs.now links left c.args.pool.now.lost.items c.in-Err-Unread.job c.in-Err-Unread.item u c.index-jobs-job.result c.index-jobs-job.is

pub returns-in-Err-Unread-clause-fault : goal.returns-in-Err-Unread-clause-fault
returns-in-Err-Unread-clause-fault g c =
    let links = map g.L.Link.link_state c.args.pool.now.links.items in
    let left = map g.L.Link.link_state c.run_jobs.new.pool.links.items in
    let u = unread_of (map job_of c.args.jobs.now) c.in-Err-Unread.field-0 c.in-Err-Unread.job c.in-Err-Unread.item links left c.args.pool.now.lost.items c.run_jobs.new.pool.lost.items c.in_ok-keep.keep.faults c.run_jobs.new.keep.faults c.in-Err-Unread.field-0-is c.in-Err-Unread.ensures.fault in
    unread_item c.args.jobs.now links left c.args.pool.now.lost.items c.in-Err-Unread.job c.in-Err-Unread.item u c.index-jobs-job.result c.index-jobs-job.is (string_bytes c.in_ok-path-in-Err-Unread.path) c.in_ok-path-in-Err-Unread.ensures
