use Rattle.std.proofs.Common.{true, false, ◌≡◌, ◌<◌, ◌∙◌, [], map, length, sym, arith, rules}
use Rattle.std.proofs.lemmas.Bool.{eqb-true}
use Rattle.worker_pool.proofs.Places.{read_has, none_there}
use Rattle.worker_protocol.specs.Views.{job_of}
use Rattle.worker_pool.specs.Run.{state, NoneBusy}
use Rattle.worker_pool.proofs.Turns.{none_left, all_lost, no_items, turned_over}
use Rattle.worker_pool.proofs.dispatch.dispatch_run.round.Goals as goal

pub returns-then-finished-clause-turned : goal.returns-then-finished-clause-turned
returns-then-finished-clause-turned g c =
    let n : length c.in_ok-busy.busy.items ≡ 0 = (let t = c.if-is_empty.true in let q = c.is_empty.ensures in let o = c.in_ok-busy.busy.ok in let z = eqb-true _ _ (sym q ∙ t) in omega (arith, z, o)) in
    let e : c.in_ok-busy.busy.items ≡ [] = no_items c.in_ok-busy.busy.items n in
    let none : NoneBusy c.args.run.now.job_table = λ l j at. (let k = c.in_ok-busy.ensures.each l (j, at) in none_there c.in_ok-busy.busy.items k.0 l e k.1) in
    turned_over (map job_of c.args.jobs.now) (state g.L.Link.link_state c.args.run.now.job_table c.args.run.now.links.slots.items c.args.run.now.links.receivings.items (g.K.PartSink.kept c.args.keep.now c.args.on.now) c.args.run.now.lost.items) c.requires.idle (c.finished.ensures.0 c.if-finished.true) none

pub returns-then-is_empty-clause-fault : goal.returns-then-is_empty-clause-fault
returns-then-is_empty-clause-fault g c =
    let n : length c.in_ok-busy.busy.items ≡ 0 = (let t = c.if-is_empty.true in let q = c.is_empty.ensures in let o = c.in_ok-busy.busy.ok in let z = eqb-true _ _ (sym q ∙ t) in omega (arith, z, o)) in
    let e : c.in_ok-busy.busy.items ≡ [] = no_items c.in_ok-busy.busy.items n in
    let none : NoneBusy c.args.run.now.job_table = λ l j at. (let k = c.in_ok-busy.ensures.each l (j, at) in none_there c.in_ok-busy.busy.items k.0 l e k.1) in
    all_lost (map job_of c.args.jobs.now) (state g.L.Link.link_state c.args.run.now.job_table c.args.run.now.links.slots.items c.args.run.now.links.receivings.items (g.K.PartSink.kept c.args.keep.now c.args.on.now) c.args.run.now.lost.items) (none_left c.args.run.now.job_table (c.in_ok-busy.ensures.with e) none c.requires.idle (λ h. absurd (let t : c.finished.result ≡ true = c.finished.ensures.1 h in let f : c.finished.result ≡ false = c.if-finished.false in cc (t, f))))

pub receive_job-requires-clause-busy : goal.receive_job-requires-clause-busy
receive_job-requires-clause-busy g c =
    let lt : c.pick-at.result < length c.in_ok-busy.busy.items = (let p = c.pick-at.ensures in search rules) in
    c.in_ok-busy.ensures.all c.pick-at.result _ (read_has c.in_ok-busy.busy.items c.pick-at.result c.index-link.result.now lt c.index-link.ensures)

pub receive_job-requires-clause-runs : goal.receive_job-requires-clause-runs
receive_job-requires-clause-runs g c = record { began = c.requires.runs.began; going = c.requires.runs.going }

pub give_all-requires-clause-runs : goal.give_all-requires-clause-runs
give_all-requires-clause-runs g c = record { began = c.requires.runs.began; going = c.in_ok-receive_job.ensures.going c.requires.runs.began c.requires.runs.all c.requires.runs.going }
