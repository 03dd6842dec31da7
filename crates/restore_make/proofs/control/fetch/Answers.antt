use Rattle.std.proofs.Common.{◌≡◌, ◌∙◌, refl, sym, ap, subst, map, List, ◌∷◌, ◌++◌, [], slice_get}
use Rattle.base_model.specs.Text.{Text}
use Rattle.base_model.specs.Values.{file_entry_of}
use Rattle.worker_protocol.specs.Frames.{Job}
use Rattle.worker_protocol.specs.Views.{job_of}
use Rattle.restore_steps.specs.declared.contents.files.Wanted.{Wanted}
use Rattle.restore_steps.specs.Sources.{reading}
use Rattle.restore_make.specs.Written.{AreJobsOf}
use Rattle.restore_make.specs.Faults.{Renames, WriteFails}
use Rattle.restore_make.proofs.Fetched.{one_none, one_job, one_want, entry_fetched, away_fetched, fetch_fails}
use Rattle.restore_make.proofs.Proper.{one_housed}
use Rattle.restore_make.proofs.control.fetch.Goals as goal

pub write_files-requires-clause-jobs : goal.write_files-requires-clause-jobs
write_files-requires-clause-jobs g c =
    let stanza = c.args.file.now.stanza.now in
    let own = c.args.file.now.own.now in
    let e = file_entry_of c.args.file.now.entry.now in
    let j = reading stanza own e in
    let w : Wanted = record { path = c.args.path; size = c.args.file.now.entry.now.size; sum = c.args.file.now.entry.now.sum; time = c.args.file.now.entry.now.time } in
    let list : map job_of c.deref.result.now ≡ j ∷ [] = ap (map job_of) (c.deref.ensures.value ∙ c.in_ok-push.ensures.items ∙ ap (λ l. l ++ c.in_ok-source_job.field-0 ∷ []) c.new-jobs.ensures.items) ∙ ap (λ (x : Job). x ∷ []) c.in_ok-source_job.ensures.job in
    subst (λ (js : List Job). AreJobsOf (w ∷ []) js) (sym list) (one_job w j (one_want e j w stanza own refl refl c.requires.some))

pub returns-in-Ok-clause-fetched : goal.returns-in-Ok-clause-fetched
returns-in-Ok-clause-fetched g c =
    let stanza = c.args.file.now.stanza.now in
    let own = c.args.file.now.own.now in
    let e = file_entry_of c.args.file.now.entry.now in
    let j = reading stanza own e in
    let w : Wanted = record { path = c.args.path; size = c.args.file.now.entry.now.size; sum = c.args.file.now.entry.now.sum; time = c.args.file.now.entry.now.time } in
    let list : map job_of c.deref.result.now ≡ j ∷ [] = ap (map job_of) (c.deref.ensures.value ∙ c.in_ok-push.ensures.items ∙ ap (λ l. l ++ c.in_ok-source_job.field-0 ∷ []) c.new-jobs.ensures.items) ∙ ap (λ (x : Job). x ∷ []) c.in_ok-source_job.ensures.job in
    let links = map g.L.Link.link_state c.args.pool.now.links.items in
    let new = (g.T.DataFolder.state c.write_files.new.tree).nodes in
    entry_fetched stanza own links e j w c.args.path.now new refl refl refl refl refl (c.in-Ok.ensures.fetched 0 j w (ap (λ (js : List Job). slice_get js 0) list) refl)

pub returns-in-Ok-clause-alone : goal.returns-in-Ok-clause-alone
returns-in-Ok-clause-alone g c =
    let stanza = c.args.file.now.stanza.now in
    let own = c.args.file.now.own.now in
    let e = file_entry_of c.args.file.now.entry.now in
    let j = reading stanza own e in
    let w : Wanted = record { path = c.args.path; size = c.args.file.now.entry.now.size; sum = c.args.file.now.entry.now.sum; time = c.args.file.now.entry.now.time } in
    let list : map job_of c.deref.result.now ≡ j ∷ [] = ap (map job_of) (c.deref.ensures.value ∙ c.in_ok-push.ensures.items ∙ ap (λ l. l ++ c.in_ok-source_job.field-0 ∷ []) c.new-jobs.ensures.items) ∙ ap (λ (x : Job). x ∷ []) c.in_ok-source_job.ensures.job in
    let links = map g.L.Link.link_state c.args.pool.now.links.items in
    let new = (g.T.DataFolder.state c.write_files.new.tree).nodes in
    away_fetched links j w c.args.path.now new refl (c.in-Ok.ensures.fetched 0 j w (ap (λ (js : List Job). slice_get js 0) list) refl)

pub returns-clause-fault : goal.returns-clause-fault
returns-clause-fault g c =
    let stanza = c.args.file.now.stanza.now in
    let own = c.args.file.now.own.now in
    let e = file_entry_of c.args.file.now.entry.now in
    let j = reading stanza own e in
    let w : Wanted = record { path = c.args.path; size = c.args.file.now.entry.now.size; sum = c.args.file.now.entry.now.sum; time = c.args.file.now.entry.now.time } in
    let list : map job_of c.deref.result.now ≡ j ∷ [] = ap (map job_of) (c.deref.ensures.value ∙ c.in_ok-push.ensures.items ∙ ap (λ l. l ++ c.in_ok-source_job.field-0 ∷ []) c.new-jobs.ensures.items) ∙ ap (λ (x : Job). x ∷ []) c.in_ok-source_job.ensures.job in
    let links = map g.L.Link.link_state c.args.pool.now.links.items in
    let left = map g.L.Link.link_state c.write_files.new.pool.links.items in
    let before = c.args.pool.now.lost.items in
    let after = c.write_files.new.pool.lost.items in
    let old = (g.T.DataFolder.state c.args.tree.now).faults in
    let new = (g.T.DataFolder.state c.write_files.new.tree).faults in
    fetch_fails stanza own e j w refl refl refl links left before after old new c.in-Err.fault c.in_ok-renamed-in-Err.field-0
    (subst (λ (js : List Job). WriteFails c.in-Err.fault js (w ∷ []) links left before after old new) list c.in-Err.ensures.fault)
    (subst (λ (p : Text). Renames p c.in-Err.fault c.in_ok-renamed-in-Err.field-0) c.deref-in-Err.ensures c.in_ok-renamed-in-Err.ensures)

pub returns-in-Ok-clause-proper : goal.returns-in-Ok-clause-proper
returns-in-Ok-clause-proper g c = λ placed.
    let w : Wanted = record { path = c.args.path; size = c.args.file.now.entry.now.size; sum = c.args.file.now.entry.now.sum; time = c.args.file.now.entry.now.time } in
    c.write_files.ensures.proper (one_housed w c.args.path.now (g.T.DataFolder.state c.args.tree.now).nodes refl placed)

pub returns-clause-proper : goal.returns-clause-proper
returns-clause-proper g c = λ placed.
    let w : Wanted = record { path = c.args.path; size = c.args.file.now.entry.now.size; sum = c.args.file.now.entry.now.sum; time = c.args.file.now.entry.now.time } in
    c.write_files.ensures.proper (one_housed w c.args.path.now (g.T.DataFolder.state c.args.tree.now).nodes refl placed)

pub returns-in_err-renamed-in-Err-clause-proper : goal.returns-in_err-renamed-in-Err-clause-proper
returns-in_err-renamed-in-Err-clause-proper g c = λ placed.
    let w : Wanted = record { path = c.args.path; size = c.args.file.now.entry.now.size; sum = c.args.file.now.entry.now.sum; time = c.args.file.now.entry.now.time } in
    c.write_files.ensures.proper (one_housed w c.args.path.now (g.T.DataFolder.state c.args.tree.now).nodes refl placed)

pub returns-in-Ok-clause-others : goal.returns-in-Ok-clause-others
returns-in-Ok-clause-others g c = λ q off off_temp.
    let w : Wanted = record { path = c.args.path; size = c.args.file.now.entry.now.size; sum = c.args.file.now.entry.now.sum; time = c.args.file.now.entry.now.time } in
    c.write_files.ensures.others q (one_none w q off off_temp)

pub returns-in_err-renamed-in-Err-clause-others : goal.returns-in_err-renamed-in-Err-clause-others
returns-in_err-renamed-in-Err-clause-others g c = λ q off off_temp.
    let w : Wanted = record { path = c.args.path; size = c.args.file.now.entry.now.size; sum = c.args.file.now.entry.now.sum; time = c.args.file.now.entry.now.time } in
    c.write_files.ensures.others q (one_none w q off off_temp)

pub returns-clause-others : goal.returns-clause-others
returns-clause-others g c = λ q off off_temp.
    let w : Wanted = record { path = c.args.path; size = c.args.file.now.entry.now.size; sum = c.args.file.now.entry.now.sum; time = c.args.file.now.entry.now.time } in
    c.write_files.ensures.others q (one_none w q off off_temp)
