use Rattle.std.proofs.Common.{◌∙◌, map, sym, ap}
use Rattle.worker_protocol.specs.Views.{job_of}
use Rattle.restore_steps.specs.Sources.{source}
use Rattle.restore_make.specs.Kept.{digesting, in_folder}
use Rattle.restore_make.specs.Digested.{file_of}
use Rattle.restore_make.proofs.Checked.{has_its}
use Rattle.restore_make.proofs.Digests.{are_ends, are_digests, held_fails, never_unread, digest_each, digest_count, fits_digest}
use Rattle.restore_make.proofs.ReadJobs.{all_fit}
use Rattle.restore_make.proofs.digesting.digest.Goals as goal

pub run_digests-requires-clause-fits : goal.run_digests-requires-clause-fits
run_digests-requires-clause-fits g c =
    all_fit digesting (map file_of c.args.candidates.now) c.deref.result.now (ap (map job_of) c.deref.ensures.value ∙ c.in_ok-jobs.ensures.jobs) (λ e i. fits_digest e (c.requires.entries e i))

pub run_digests-requires-clause-digests : goal.run_digests-requires-clause-digests
run_digests-requires-clause-digests g c = are_digests c.args.candidates.now (map job_of c.deref.result.now) (ap (map job_of) c.deref.ensures.value ∙ c.in_ok-jobs.ensures.jobs)

pub returns-in-Ok-clause-ends : goal.returns-in-Ok-clause-ends
returns-in-Ok-clause-ends g c =
    let list = ap (map job_of) c.deref.ensures.value ∙ c.in_ok-jobs.ensures.jobs in
    are_ends (map g.L.Link.link_state c.args.pool.now.links.items) c.args.candidates.now (map job_of c.deref.result.now) list c.in-Ok.ends.items c.in-Ok.ensures.ends

pub named-requires : goal.named-requires
named-requires g c =
    let jobs = map job_of c.deref.result.now in
    let list = ap (map job_of) c.deref.ensures.value ∙ c.in_ok-jobs.ensures.jobs in
    has_its jobs _ c.in-Err.fault (map g.L.Link.link_state c.args.pool.now.links.items) c.args.pool.now.lost.items c.run_digests.new.pool.lost.items 0 0 (map g.L.Link.link_state c.run_digests.new.pool.links.items) (sym (digest_count c.args.candidates.now jobs list)) c.in-Err.ensures.fault

pub returns-clause-fault : goal.returns-clause-fault
returns-clause-fault g c = λ stanza own f h.
    let cs = c.args.candidates.now in
    let jobs = map job_of c.deref.result.now in
    let list = ap (map job_of) c.deref.ensures.value ∙ c.in_ok-jobs.ensures.jobs in
    held_fails stanza own (map g.L.Link.link_state c.args.pool.now.links.items) cs jobs in_folder (digest_each cs jobs list) (λ t d u. never_unread t d (source stanza own d) u)
    (map g.L.Link.link_state c.run_digests.new.pool.links.items) c.args.pool.now.lost.items c.run_digests.new.pool.lost.items 0 0 f h c.in-Err.fault c.in_ok-named-in-Err.field-0 c.in-Err.ensures.fault c.in_ok-named-in-Err.ensures
