use Rattle.std.proofs.Common.{map, refl, ◌∙◌}
use Rattle.std.proofs.lemmas.Result.{on_ok_weaker}
use Rattle.worker_protocol.specs.Views.{job_of}
use Rattle.worker_pool.specs.Run.{state, fresh, begun}
use Rattle.worker_pool.proofs.Whole.{going_start, begun_of, run_fault_each, going_each, give_known, run_known}
use Rattle.worker_pool.proofs.dispatch.dispatch_run.run_slots.Goals as goal

pub give_all-requires-clause-runs : goal.give_all-requires-clause-runs
give_all-requires-clause-runs g c = record { began = fresh c.requires.starts.0 c.args.run.now.lost.items; going = going_start (map job_of c.args.jobs.now) c.requires.starts.0 (state g.L.Link.link_state c.args.run.now.job_table c.args.run.now.links.slots.items c.args.run.now.links.receivings.items (g.K.PartSink.kept c.args.keep.now c.args.on.now) c.args.run.now.lost.items) c.requires.starts.1 }

pub run_rounds-requires-clause-runs : goal.run_rounds-requires-clause-runs
run_rounds-requires-clause-runs g c = record {
  began = begun c.requires.starts.0 c.args.run.now.lost.items;
  all = refl;
  going = begun_of (map job_of c.args.jobs.now) c.requires.starts.0 (state g.L.Link.link_state c.args.run.now.job_table c.args.run.now.links.slots.items c.args.run.now.links.receivings.items (g.K.PartSink.kept c.args.keep.now c.args.on.now) c.args.run.now.lost.items) (state g.L.Link.link_state c.give_all.new.run.job_table c.give_all.new.run.links.slots.items c.give_all.new.run.links.receivings.items (g.K.PartSink.kept c.give_all.new.keep c.give_all.new.on) c.give_all.new.run.lost.items) c.requires.starts.1 c.in_ok-give_all.ensures.going c.in_ok-give_all.ensures.idle;
}

pub returns-clause-going : goal.returns-clause-going
returns-clause-going g c = going_each c.run_rounds.result (map job_of c.args.jobs.now) (state g.L.Link.link_state c.args.run.now.job_table c.args.run.now.links.slots.items c.args.run.now.links.receivings.items (g.K.PartSink.kept c.args.keep.now c.args.on.now) c.args.run.now.lost.items) (state g.L.Link.link_state c.give_all.new.run.job_table c.give_all.new.run.links.slots.items c.give_all.new.run.links.receivings.items (g.K.PartSink.kept c.give_all.new.keep c.give_all.new.on) c.give_all.new.run.lost.items) (state g.L.Link.link_state c.run_rounds.new.run.job_table c.run_rounds.new.run.links.slots.items c.run_rounds.new.run.links.receivings.items (g.K.PartSink.kept c.run_rounds.new.keep c.run_rounds.new.on) c.run_rounds.new.run.lost.items) c.in_ok-give_all.ensures.going c.in_ok-give_all.ensures.idle c.run_rounds.ensures.going

pub returns-clause-fault : goal.returns-clause-fault
returns-clause-fault g c = run_fault_each c.run_rounds.result (map job_of c.args.jobs.now) (state g.L.Link.link_state c.args.run.now.job_table c.args.run.now.links.slots.items c.args.run.now.links.receivings.items (g.K.PartSink.kept c.args.keep.now c.args.on.now) c.args.run.now.lost.items) (state g.L.Link.link_state c.give_all.new.run.job_table c.give_all.new.run.links.slots.items c.give_all.new.run.links.receivings.items (g.K.PartSink.kept c.give_all.new.keep c.give_all.new.on) c.give_all.new.run.lost.items) (state g.L.Link.link_state c.run_rounds.new.run.job_table c.run_rounds.new.run.links.slots.items c.run_rounds.new.run.links.receivings.items (g.K.PartSink.kept c.run_rounds.new.keep c.run_rounds.new.on) c.run_rounds.new.run.lost.items) c.in_ok-give_all.ensures.going c.in_ok-give_all.ensures.idle c.in_ok-give_all.ensures.gave.faults c.run_rounds.ensures.fault

pub returns-in_err-give_all-clause-known : goal.returns-in_err-give_all-clause-known
returns-in_err-give_all-clause-known g c = give_known (map job_of c.args.jobs.now) c.requires.starts.0 (state g.L.Link.link_state c.args.run.now.job_table c.args.run.now.links.slots.items c.args.run.now.links.receivings.items (g.K.PartSink.kept c.args.keep.now c.args.on.now) c.args.run.now.lost.items) c.give_all.new.run.lost.items c.requires.starts.1 c.in_err-give_all.ensures.known

pub returns-clause-known : goal.returns-clause-known
returns-clause-known g c = run_known c.run_rounds.result (map job_of c.args.jobs.now) c.requires.starts.0 (state g.L.Link.link_state c.args.run.now.job_table c.args.run.now.links.slots.items c.args.run.now.links.receivings.items (g.K.PartSink.kept c.args.keep.now c.args.on.now) c.args.run.now.lost.items) (state g.L.Link.link_state c.give_all.new.run.job_table c.give_all.new.run.links.slots.items c.give_all.new.run.links.receivings.items (g.K.PartSink.kept c.give_all.new.keep c.give_all.new.on) c.give_all.new.run.lost.items) (state g.L.Link.link_state c.run_rounds.new.run.job_table c.run_rounds.new.run.links.slots.items c.run_rounds.new.run.links.receivings.items (g.K.PartSink.kept c.run_rounds.new.keep c.run_rounds.new.on) c.run_rounds.new.run.lost.items) c.requires.starts.1 c.in_ok-give_all.ensures.going c.in_ok-give_all.ensures.idle c.run_rounds.ensures.going c.run_rounds.ensures.known

pub returns-clause-faults : goal.returns-clause-faults
returns-clause-faults g c = on_ok_weaker c.run_rounds.result (λ e. e ∙ c.in_ok-give_all.ensures.gave.faults) c.run_rounds.ensures.faults
