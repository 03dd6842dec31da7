use Rattle.std.proofs.Common.{◌<◌, ◌∙◌, length, map, set, refl, arith}
use Rattle.std.specs.Prelude.{option_map}
use Rattle.std.proofs.lemmas.List.{length-map}
use Rattle.worker_protocol.specs.Views.{job_of}
use Rattle.worker_pool.specs.Run.{state}
use Rattle.worker_pool.proofs.Events.{job_at, fits_at, slots_lost, on_ok}
use Rattle.worker_pool.proofs.Given.{going_given, refused_goes, refused_known, settles_ok, settles_refused, gave_ok, gave_refused, has_given, idle_within, waits_within}
use Rattle.worker_pool.proofs.dispatch.job_handout.give_job.Goals as goal

pub bounds-jobs-job : goal.bounds-jobs-job
bounds-jobs-job g c =
    let w = (waits_within (map job_of c.args.jobs.now) (state g.L.Link.link_state c.args.run.now.job_table c.args.run.now.links.slots.items c.args.run.now.links.receivings.items (g.K.PartSink.kept c.args.keep.now c.args.on.now) c.args.run.now.lost.items) c.in-Some.job c.requires.runs c.in-Some.ensures.given.0.waits) in omega (arith, w.0, length-map c.args.jobs.now job_of)

pub send_at-requires : goal.send_at-requires
send_at-requires g c =
    let w = (idle_within (map job_of c.args.jobs.now) (state g.L.Link.link_state c.args.run.now.job_table c.args.run.now.links.slots.items c.args.run.now.links.receivings.items (g.K.PartSink.kept c.args.keep.now c.args.on.now) c.args.run.now.lost.items) c.args.i c.requires.runs c.requires.idle).0 in omega (arith, w, length-map c.args.run.now.links.slots.items (option_map g.L.Link.link_state), c.args.run.now.links.slots.ok)

pub index_mut-requires : goal.index_mut-requires
index_mut-requires g c =
    let w = (idle_within (map job_of c.args.jobs.now) (state g.L.Link.link_state c.args.run.now.job_table c.args.run.now.links.slots.items c.args.run.now.links.receivings.items (g.K.PartSink.kept c.args.keep.now c.args.on.now) c.args.run.now.lost.items) c.args.i c.requires.runs c.requires.idle).1 in omega (arith, w, c.args.run.now.links.receivings.ok)

pub drop_link-requires-clause-has : goal.drop_link-requires-clause-has
drop_link-requires-clause-has g c = has_given _ _ _ _ c.requires.idle c.in-Some.ensures.given.1

pub drop_link-requires-clause-slot : goal.drop_link-requires-clause-slot
drop_link-requires-clause-slot g c =
    let w = (idle_within (map job_of c.args.jobs.now) (state g.L.Link.link_state c.args.run.now.job_table c.args.run.now.links.slots.items c.args.run.now.links.receivings.items (g.K.PartSink.kept c.args.keep.now c.args.on.now) c.args.run.now.lost.items) c.args.i c.requires.runs c.requires.idle).0 in omega (arith, w, length-map c.args.run.now.links.slots.items (option_map g.L.Link.link_state), c.args.run.now.links.slots.ok, c.send_at.ensures.length)

pub drop_link-requires-clause-within : goal.drop_link-requires-clause-within
drop_link-requires-clause-within g c = (waits_within (map job_of c.args.jobs.now) (state g.L.Link.link_state c.args.run.now.job_table c.args.run.now.links.slots.items c.args.run.now.links.receivings.items (g.K.PartSink.kept c.args.keep.now c.args.on.now) c.args.run.now.lost.items) c.in-Some.job c.requires.runs c.in-Some.ensures.given.0.waits).1

pub returns-in-Ok-send_at-clause-going : goal.returns-in-Ok-send_at-clause-going
returns-in-Ok-send_at-clause-going g c = λ b go.
    let w = (waits_within (map job_of c.args.jobs.now) (state g.L.Link.link_state c.args.run.now.job_table c.args.run.now.links.slots.items c.args.run.now.links.receivings.items (g.K.PartSink.kept c.args.keep.now c.args.on.now) c.args.run.now.lost.items) c.in-Some.job c.requires.runs c.in-Some.ensures.given.0.waits) in
    let lt : c.in-Some.job < length c.args.jobs.now = omega (arith, w.0, length-map c.args.jobs.now job_of) in
    going_given (map job_of c.args.jobs.now) b (state g.L.Link.link_state c.args.run.now.job_table c.args.run.now.links.slots.items c.args.run.now.links.receivings.items (g.K.PartSink.kept c.args.keep.now c.args.on.now) c.args.run.now.lost.items) (state g.L.Link.link_state c.give.new.self c.send_at.new.slots.items (set c.args.run.now.links.receivings.items c.args.i c.new.result) (g.K.PartSink.kept c.args.keep.now c.args.on.now) c.args.run.now.lost.items) c.args.i c.in-Some.job (job_of c.index-jobs-job.result) c.deref.result.now c.new.result go c.requires.idle c.in-Some.ensures.given
    (job_at job_of c.args.jobs.now c.in-Some.job c.index-jobs-job.result lt c.index-jobs-job.is) (fits_at job_of c.args.jobs.now c.in-Some.job c.index-jobs-job.result c.requires.fits lt c.index-jobs-job.is)
    (c.deref.ensures.value ∙ c.in-Ok.ensures) c.in-Ok-send_at.ensures.states refl c.new.ensures.starts c.new.ensures.counts refl refl

pub returns-in-Ok-send_at-clause-gave : goal.returns-in-Ok-send_at-clause-gave
returns-in-Ok-send_at-clause-gave g c = gave_ok (map job_of c.args.jobs.now) (state g.L.Link.link_state c.args.run.now.job_table c.args.run.now.links.slots.items c.args.run.now.links.receivings.items (g.K.PartSink.kept c.args.keep.now c.args.on.now) c.args.run.now.lost.items) (state g.L.Link.link_state c.give.new.self c.send_at.new.slots.items (set c.args.run.now.links.receivings.items c.args.i c.new.result) (g.K.PartSink.kept c.args.keep.now c.args.on.now) c.args.run.now.lost.items) c.args.i c.in-Some.job c.requires.idle c.in-Some.ensures.given.1 refl

pub returns-in-Ok-send_at-clause-settles : goal.returns-in-Ok-send_at-clause-settles
returns-in-Ok-send_at-clause-settles g c = settles_ok c.args.run.now.job_table c.give.new.self c.args.i c.in-Some.job c.in-Some.ensures.given

pub returns-clause-going : goal.returns-clause-going
returns-clause-going g c =
    refused_goes c.drop_link.result c.in-Err-Failed.field-0 (map job_of c.args.jobs.now) (state g.L.Link.link_state c.args.run.now.job_table c.args.run.now.links.slots.items c.args.run.now.links.receivings.items (g.K.PartSink.kept c.args.keep.now c.args.on.now) c.args.run.now.lost.items) (state g.L.Link.link_state c.drop_link.new.run.job_table c.drop_link.new.run.links.slots.items c.drop_link.new.run.links.receivings.items (g.K.PartSink.kept c.drop_link.new.keep c.drop_link.new.on) c.drop_link.new.run.lost.items) c.args.i c.in-Some.job c.give.new.self c.deref.result.now (map (option_map g.L.Link.link_state) c.send_at.new.slots.items) c.in-Err-Failed.field-0-is c.requires.idle c.in-Some.ensures.given c.drop_link.ensures.job_table c.in-Err-Failed.ensures.states
    (on_ok c.drop_link.result _ _ c.drop_link.ensures.slots (slots_lost g.L.Link.link_state c.send_at.new.slots.items c.drop_link.new.run.links.slots.items c.args.i)) c.drop_link.ensures.receivings c.drop_link.ensures.kept c.drop_link.ensures.lost (waits_within (map job_of c.args.jobs.now) (state g.L.Link.link_state c.args.run.now.job_table c.args.run.now.links.slots.items c.args.run.now.links.receivings.items (g.K.PartSink.kept c.args.keep.now c.args.on.now) c.args.run.now.lost.items) c.in-Some.job c.requires.runs c.in-Some.ensures.given.0.waits).0

pub returns-clause-gave : goal.returns-clause-gave
returns-clause-gave g c = gave_refused c.drop_link.result (map job_of c.args.jobs.now) (state g.L.Link.link_state c.args.run.now.job_table c.args.run.now.links.slots.items c.args.run.now.links.receivings.items (g.K.PartSink.kept c.args.keep.now c.args.on.now) c.args.run.now.lost.items) (state g.L.Link.link_state c.drop_link.new.run.job_table c.drop_link.new.run.links.slots.items c.drop_link.new.run.links.receivings.items (g.K.PartSink.kept c.drop_link.new.keep c.drop_link.new.on) c.drop_link.new.run.lost.items) c.give.new.self c.args.i c.in-Some.job c.requires.idle c.in-Some.ensures.given c.drop_link.ensures.job_table c.drop_link.ensures.kept

pub returns-clause-settles : goal.returns-clause-settles
returns-clause-settles g c = settles_refused c.drop_link.result c.args.run.now.job_table c.give.new.self c.drop_link.new.run.job_table c.args.i c.in-Some.job c.in-Some.ensures.given c.drop_link.ensures.job_table

pub returns-clause-known : goal.returns-clause-known
returns-clause-known g c = refused_known c.drop_link.result c.in-Err-Failed.field-0 (map job_of c.args.jobs.now) (state g.L.Link.link_state c.args.run.now.job_table c.args.run.now.links.slots.items c.args.run.now.links.receivings.items (g.K.PartSink.kept c.args.keep.now c.args.on.now) c.args.run.now.lost.items) c.args.i c.deref.result.now (map (option_map g.L.Link.link_state) c.send_at.new.slots.items) c.drop_link.new.run.lost.items c.in-Err-Failed.field-0-is c.requires.idle c.in-Err-Failed.ensures.states c.drop_link.ensures.known
