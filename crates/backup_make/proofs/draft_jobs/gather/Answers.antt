use Rattle.std.proofs.Common.{◌≡◌, ◌∙◌, List, length, map, string_bytes, ap, sym, subst, arith}
use Rattle.std.specs.Prelude.{All}
use Rattle.std.proofs.lemmas.List.{length-map}
use Rattle.worker_protocol.specs.declared.frames.frames.Job as rust
use Rattle.worker_protocol.specs.Frames.{FitsJob}
use Rattle.worker_protocol.specs.Views.{job_of}
use Rattle.base_devices.specs.Content.{Name}
use Rattle.worker_pool.specs.Payloads.{AllByFile}
use Rattle.worker_pool.specs.Run.{AllDone}
use Rattle.backup_sink.specs.declared.keeper.EndedItem.{EndedItem}
use Rattle.backup_sink.specs.Keeping.{IsPlan, progress_of}
use Rattle.backup_sink.specs.Keeper.{names_of, progress_in, stored_in}
use Rattle.backup_record.specs.Naming.{names_in}
use Rattle.backup_make.specs.Stored.{AreNames, Stored}
use Rattle.backup_make.proofs.Drafted.{few_jobs, all_fit, names_plan, names_same, stored_as}
use Rattle.backup_make.proofs.draft_jobs.gather.Goals as goal

pub store-requires-clause-plan : goal.store-requires-clause-plan
store-requires-clause-plan g c =
    let are : AreNames c.args.draft.now (map string_bytes c.deref-4.result.now) = λ l p. ap (map string_bytes) c.deref-4.ensures.value ∙ c.in_ok-names.ensures l p ∙ ap (λ (f : Name). names_in f l) (c.deref.ensures ∙ c.in_ok-folder.ensures) in
    subst (λ (f : Name). IsPlan f (map string_bytes c.deref-4.result.now)) (sym (c.deref-2.ensures ∙ c.in_ok-folder.ensures)) (names_plan c.args.draft.now c.requires.draft (map string_bytes c.deref-4.result.now) are)

pub store-requires-clause-same : goal.store-requires-clause-same
store-requires-clause-same g c =
    let are : AreNames c.args.draft.now (map string_bytes c.deref-4.result.now) = λ l p. ap (map string_bytes) c.deref-4.ensures.value ∙ c.in_ok-names.ensures l p ∙ ap (λ (f : Name). names_in f l) (c.deref.ensures ∙ c.in_ok-folder.ensures) in
    ap (λ (js : List rust.Job). length js) c.deref-3.ensures.value ∙ sym (length-map c.args.draft.now.plan.jobs.items job_of) ∙ names_same c.args.draft.now c.requires.draft (map string_bytes c.deref-4.result.now) are ∙ length-map c.deref-4.result.now string_bytes

pub store-requires-clause-few_jobs : goal.store-requires-clause-few_jobs
store-requires-clause-few_jobs g c =
    let few = few_jobs c.args.draft.now c.requires.draft in
    let count = length-map c.args.draft.now.plan.jobs.items job_of in
    let same = ap (λ (js : List rust.Job). length js) c.deref-3.ensures.value in
    omega (arith, few, count, same)

pub store-requires-clause-fits : goal.store-requires-clause-fits
store-requires-clause-fits g c = subst (λ (js : List rust.Job). All (λ (j : rust.Job). FitsJob (job_of j)) js) (sym c.deref-3.ensures.value) (all_fit c.args.draft.now c.requires.draft)

pub returns-clause-stored : goal.returns-clause-stored
returns-clause-stored g c =
    let k = c.in_ok-keep.keep in
    let draft = c.args.draft.now in
    let links = map g.L.Link.link_state c.args.pool.now.links.items in
    let now = (g.D.Disk.state c.store.new.d).view.now in
    let are : AreNames draft (names_of k) = λ l p. c.in_ok-keep.ensures.names ∙ ap (map string_bytes) c.deref-4.ensures.value ∙ c.in_ok-names.ensures l p ∙ ap (λ (f : Name). names_in f l) (c.deref.ensures ∙ c.in_ok-folder.ensures) in
    let count : length (names_of k) ≡ length (progress_in k) = omega (arith, k.same_states, k.states.ok, length-map k.states.items progress_of, length-map k.names.now string_bytes) in
    let done = subst (λ (js : List rust.Job). AllDone (map job_of js) links (stored_in k now)) c.deref-3.ensures.value c.in_ok-keep.ensures.done in
    let payload = subst (λ (js : List rust.Job). AllByFile (map job_of js) links (stored_in k now)) c.deref-3.ensures.value c.in_ok-keep.ensures.payload in
    subst (λ (ends : List (List EndedItem)). Stored draft links ends now) (sym c.in_ok-into_ends.ensures)
    (stored_as draft c.requires.draft (names_of k) are links (progress_in k) now count c.in_ok-keep.ensures.agrees done payload)
