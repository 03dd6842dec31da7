use Rattle.std.proofs.Common.{◌≡◌, ◌∙◌, ◌++◌, ◌∷◌, [], ap, map}
use Rattle.std.proofs.lemmas.Result.{IfOk-weaker, IfErr-weaker}
use Rattle.base_model.specs.Values.{file_entry_of}
use Rattle.worker_protocol.specs.Frames.{Job}
use Rattle.worker_protocol.specs.Views.{job_of}
use Rattle.restore_steps.specs.Sources.{source, reading}
use Rattle.restore_make.specs.declared.candidates.Candidate.{Candidate}
use Rattle.worker_pool.specs.Holdings.{state_of}
use Rattle.restore_make.proofs.Digests.{held_fails}
use Rattle.restore_make.proofs.HeldRead.{on_ok, one_each, right_bytes, wrong_fails}
use Rattle.worker_pool.proofs.Links.{left_all, left_is}
use Rattle.restore_make.proofs.settings.read_file.Goals as goal

pub returns-in-Ok-clause-bytes : goal.returns-in-Ok-clause-bytes
returns-in-Ok-clause-bytes g c =
    let stanza = c.args.stanza.now in
    let own = c.args.own.now in
    let e = file_entry_of c.args.file.now in
    let links = map g.L.Link.link_state c.args.pool.now.links.items in
    let list : map job_of c.deref-2.result.now ≡ reading stanza own e ∷ [] = ap (map job_of) (c.deref-2.ensures.value ∙ c.in_ok-push.ensures.items ∙ ap (λ l. l ++ c.in_ok-source_job.field-0 ∷ []) c.new-jobs.ensures.items) ∙ ap (λ (x : Job). x ∷ []) c.in_ok-source_job.ensures.job in
    IfOk-weaker c.checked.result _ _
    (λ bytes right. right_bytes stanza own links e (map job_of c.deref-2.result.now) list (state_of c.run_jobs.new.keep).kept c.in-Ok.ensures.done c.ended.result.now c.ended.ensures.items bytes.items right)
    c.checked.ensures.right

pub returns-in-Ok-clause-left : goal.returns-in-Ok-clause-left
returns-in-Ok-clause-left g c = on_ok c.checked.result _ (left_is (map job_of c.deref-2.result.now) (map g.L.Link.link_state c.args.pool.now.links.items) c.args.pool.now.lost.items c.run_jobs.new.pool.lost.items (map g.L.Link.link_state c.run_jobs.new.pool.links.items) c.in-Ok.ensures.left)

pub returns-in-Ok-clause-fault : goal.returns-in-Ok-clause-fault
returns-in-Ok-clause-fault g c = λ f h.
    let stanza = c.args.stanza.now in
    let own = c.args.own.now in
    let e = file_entry_of c.args.file.now in
    let links = map g.L.Link.link_state c.args.pool.now.links.items in
    let list : map job_of c.deref-2.result.now ≡ reading stanza own e ∷ [] = ap (map job_of) (c.deref-2.ensures.value ∙ c.in_ok-push.ensures.items ∙ ap (λ l. l ++ c.in_ok-source_job.field-0 ∷ []) c.new-jobs.ensures.items) ∙ ap (λ (x : Job). x ∷ []) c.in_ok-source_job.ensures.job in
    IfErr-weaker c.checked.result _ _
    (λ x wrong. wrong_fails stanza own links e (map job_of c.deref-2.result.now) list (state_of c.run_jobs.new.keep).kept c.in-Ok.ensures.done c.ended.result.now c.ended.ensures.items (map g.L.Link.link_state c.run_jobs.new.pool.links.items) c.args.pool.now.lost.items c.run_jobs.new.pool.lost.items f h x wrong)
    c.checked.ensures.wrong

pub returns-clause-fault : goal.returns-clause-fault
returns-clause-fault g c = λ f h.
    let stanza = c.args.stanza.now in
    let own = c.args.own.now in
    let e = file_entry_of c.args.file.now in
    let links = map g.L.Link.link_state c.args.pool.now.links.items in
    let cand : Candidate = (record { place = 0; file = c.args.file }) in
    let list : map job_of c.deref-2.result.now ≡ reading stanza own e ∷ [] = ap (map job_of) (c.deref-2.ensures.value ∙ c.in_ok-push.ensures.items ∙ ap (λ l. l ++ c.in_ok-source_job.field-0 ∷ []) c.new-jobs.ensures.items) ∙ ap (λ (x : Job). x ∷ []) c.in_ok-source_job.ensures.job in
    held_fails stanza own links (cand ∷ []) (map job_of c.deref-2.result.now) (source stanza own) (one_each stanza own cand (map job_of c.deref-2.result.now) list) (λ t d u. u)
    (map g.L.Link.link_state c.run_jobs.new.pool.links.items) c.args.pool.now.lost.items c.run_jobs.new.pool.lost.items 0 0 f h c.in-Err.fault c.in_ok-named-in-Err.field-0 c.in-Err.ensures.fault c.in_ok-named-in-Err.ensures

pub returns-then-file-eq0-clause-left : goal.returns-then-file-eq0-clause-left
returns-then-file-eq0-clause-left g c = left_all (map g.L.Link.link_state c.args.pool.now.links.items) c.args.pool.now.lost.items c.requires.ready
