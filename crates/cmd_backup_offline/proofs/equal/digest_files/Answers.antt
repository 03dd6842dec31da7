use Rattle.std.proofs.Common.{◌∙◌, sym, ap, subst, arith, map, length, string_bytes, List, Option, Bool}
use Rattle.std.proofs.lemmas.List.{length-map}
use Rattle.base_model.specs.Values.{file_entry_of}
use Rattle.worker_protocol.specs.Frames.{Job}
use Rattle.worker_protocol.specs.Views.{job_of}
use Rattle.backup_plan.specs.Views.{taken_of}
use Rattle.backup_make.proofs.Unreads.{unread_of, job_within, item_within, unread_item}
use Rattle.backup_plan.specs.declared.values.Taken as rust_taken
use Rattle.worker_protocol.specs.declared.sinks.ItemEnd.{ItemEnd}
use Rattle.cmd_backup_offline.specs.Equal.{AreMarked, marks_of}
use Rattle.cmd_backup_offline.proofs.Marks.{are_digests, digest_count, digest_fits, all_fit, are_marked, undigested}
use Rattle.cmd_backup_offline.proofs.equal.digest_files.Goals as goal

pub run_digests-requires-clause-few_jobs : goal.run_digests-requires-clause-few_jobs
run_digests-requires-clause-few_jobs g c =
    let count = digest_count (map file_entry_of c.args.old.now) (map taken_of c.args.listing.now.files.items) in
    omega (arith, count, ap (λ (l : List Job). length l) c.requires.jobs, length-map c.args.jobs.now job_of, c.requires.few_files)

pub run_digests-requires-clause-fits : goal.run_digests-requires-clause-fits
run_digests-requires-clause-fits g c =
    let old = map file_entry_of c.args.old.now in
    let files = map taken_of c.args.listing.now.files.items in
    all_fit c.args.jobs.now _ c.requires.jobs (digest_fits old files (map string_bytes c.args.listing.now.folders.items) c.requires.listing)

pub run_digests-requires-clause-digests : goal.run_digests-requires-clause-digests
run_digests-requires-clause-digests g c = are_digests (map file_entry_of c.args.old.now) (map taken_of c.args.listing.now.files.items) (map job_of c.args.jobs.now) c.requires.jobs

pub returns-in_ok-marks_of-in-Ok-clause-marked : goal.returns-in_ok-marks_of-in-Ok-clause-marked
returns-in_ok-marks_of-in-Ok-clause-marked g c =
    let links = map g.L.Link.link_state c.args.pool.now.links.items in
    let old = map file_entry_of c.args.old.now in
    let files = map taken_of c.args.listing.now.files.items in
    let ends = c.deref-in-Ok.ensures.value in
    subst (λ (ms : List Bool). AreMarked links old files ms) (sym (c.in_ok-marks_of-in-Ok.ensures ∙ ap (λ (fs : List rust_taken.Taken). marks_of old (map taken_of fs) c.deref-in-Ok.result.now) c.deref.ensures.value ∙ ap (λ (es : List (Option ItemEnd)). marks_of old files es) ends))
    (are_marked links old files (map job_of c.args.jobs.now) c.in-Ok.ends.items c.requires.jobs c.in-Ok.ensures.ends)

pub bounds-jobs-job : goal.bounds-jobs-job
bounds-jobs-job g c =
    let links = map g.L.Link.link_state c.args.pool.now.links.items in
    let left = map g.L.Link.link_state c.run_digests.new.pool.links.items in
    let u = unread_of (map job_of c.args.jobs.now) c.in-Err-Unread.field-0 c.in-Err-Unread.job c.in-Err-Unread.item links left c.args.pool.now.lost.items c.run_digests.new.pool.lost.items 0 0 c.in-Err-Unread.field-0-is c.in-Err-Unread.ensures.fault in
    job_within c.args.jobs.now links left c.args.pool.now.lost.items c.in-Err-Unread.job c.in-Err-Unread.item u

pub path_at-requires : goal.path_at-requires
path_at-requires g c =
    let links = map g.L.Link.link_state c.args.pool.now.links.items in
    let left = map g.L.Link.link_state c.run_digests.new.pool.links.items in
    let u = unread_of (map job_of c.args.jobs.now) c.in-Err-Unread.field-0 c.in-Err-Unread.job c.in-Err-Unread.item links left c.args.pool.now.lost.items c.run_digests.new.pool.lost.items 0 0 c.in-Err-Unread.field-0-is c.in-Err-Unread.ensures.fault in
    item_within c.args.jobs.now links left c.args.pool.now.lost.items c.in-Err-Unread.job c.in-Err-Unread.item u c.index-jobs-job.result c.index-jobs-job.is

pub returns-in_ok-path-in-Err-Unread-clause-cause : goal.returns-in_ok-path-in-Err-Unread-clause-cause
returns-in_ok-path-in-Err-Unread-clause-cause g c =
    let links = map g.L.Link.link_state c.args.pool.now.links.items in
    let left = map g.L.Link.link_state c.run_digests.new.pool.links.items in
    let u = unread_of (map job_of c.args.jobs.now) c.in-Err-Unread.field-0 c.in-Err-Unread.job c.in-Err-Unread.item links left c.args.pool.now.lost.items c.run_digests.new.pool.lost.items 0 0 c.in-Err-Unread.field-0-is c.in-Err-Unread.ensures.fault in
    undigested (map file_entry_of c.args.old.now) (map taken_of c.args.listing.now.files.items) (map job_of c.args.jobs.now) c.requires.jobs links left (string_bytes c.in_ok-path-in-Err-Unread.path)
    (unread_item c.args.jobs.now links left c.args.pool.now.lost.items c.in-Err-Unread.job c.in-Err-Unread.item u c.index-jobs-job.result c.index-jobs-job.is (string_bytes c.in_ok-path-in-Err-Unread.path) c.in_ok-path-in-Err-Unread.ensures)
