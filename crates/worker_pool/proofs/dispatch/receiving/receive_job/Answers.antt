use Rattle.std.proofs.Common.{◌<◌, length, map, refl, arith}
use Rattle.std.specs.Prelude.{option_map}
use Rattle.std.proofs.lemmas.List.{length-map}
use Rattle.worker_protocol.specs.Views.{job_of}
use Rattle.worker_pool.specs.declared.replies.reply.Verdict.TheVariants as verdicts
use Rattle.worker_pool.specs.Run.{state}
use Rattle.worker_pool.proofs.Events.{receiving_of, job_at, fits_at, busy_within, received_with, going_more, more_advances, going_ended, ended_advances, lost_held, lost_known, lost_goes, lost_adv, lost_fault, unread_leaves, keep_rises, slots_lost, on_ok}
use Rattle.worker_pool.proofs.dispatch.receiving.receive_job.Goals as goal

pub bounds-jobs-job : goal.bounds-jobs-job
bounds-jobs-job g c =
    let w = busy_within (map job_of c.args.jobs.now) (state g.L.Link.link_state c.args.run.now.job_table c.args.run.now.links.slots.items c.args.run.now.links.receivings.items (g.K.PartSink.kept c.args.keep.now c.args.on.now) c.args.run.now.lost.items) c.args.i c.in-Some.job c.requires.runs c.in-Some.ensures.some in omega (arith, w.job, length-map c.args.jobs.now job_of)

pub receive_at-requires-clause-within : goal.receive_at-requires-clause-within
receive_at-requires-clause-within g c =
    let w = busy_within (map job_of c.args.jobs.now) (state g.L.Link.link_state c.args.run.now.job_table c.args.run.now.links.slots.items c.args.run.now.links.receivings.items (g.K.PartSink.kept c.args.keep.now c.args.on.now) c.args.run.now.lost.items) c.args.i c.in-Some.job c.requires.runs c.in-Some.ensures.some in
    let n = length-map c.args.run.now.links.slots.items (option_map g.L.Link.link_state) in
    omega (arith, w.slot, n, c.args.run.now.links.slots.ok)

pub receive_at-requires-clause-within_receivings : goal.receive_at-requires-clause-within_receivings
receive_at-requires-clause-within_receivings g c =
    let w = busy_within (map job_of c.args.jobs.now) (state g.L.Link.link_state c.args.run.now.job_table c.args.run.now.links.slots.items c.args.run.now.links.receivings.items (g.K.PartSink.kept c.args.keep.now c.args.on.now) c.args.run.now.lost.items) c.args.i c.in-Some.job c.requires.runs c.in-Some.ensures.some in omega (arith, w.receive_reply, c.args.run.now.links.receivings.ok)

pub receive_at-requires-clause-at : goal.receive_at-requires-clause-at
receive_at-requires-clause-at g c = λ h slot hat sat.
    let w = busy_within (map job_of c.args.jobs.now) (state g.L.Link.link_state c.args.run.now.job_table c.args.run.now.links.slots.items c.args.run.now.links.receivings.items (g.K.PartSink.kept c.args.keep.now c.args.on.now) c.args.run.now.lost.items) c.args.i c.in-Some.job c.requires.runs c.in-Some.ensures.some in
    let lt : c.in-Some.job < length c.args.jobs.now = omega (arith, w.job, length-map c.args.jobs.now job_of) in
    let is = job_at job_of c.args.jobs.now c.in-Some.job c.index-jobs-job.result lt c.index-jobs-job.is in
    receiving_of (map job_of c.args.jobs.now) (state g.L.Link.link_state c.args.run.now.job_table c.args.run.now.links.slots.items c.args.run.now.links.receivings.items (g.K.PartSink.kept c.args.keep.now c.args.on.now) c.args.run.now.lost.items) c.args.i c.in-Some.job (job_of c.index-jobs-job.result) h slot c.requires.runs c.in-Some.ensures.some is hat sat

pub receive_at-requires-clause-fits : goal.receive_at-requires-clause-fits
receive_at-requires-clause-fits g c =
    let w = busy_within (map job_of c.args.jobs.now) (state g.L.Link.link_state c.args.run.now.job_table c.args.run.now.links.slots.items c.args.run.now.links.receivings.items (g.K.PartSink.kept c.args.keep.now c.args.on.now) c.args.run.now.lost.items) c.args.i c.in-Some.job c.requires.runs c.in-Some.ensures.some in
    let lt : c.in-Some.job < length c.args.jobs.now = omega (arith, w.job, length-map c.args.jobs.now job_of) in
    let is = job_at job_of c.args.jobs.now c.in-Some.job c.index-jobs-job.result lt c.index-jobs-job.is in
    fits_at job_of c.args.jobs.now c.in-Some.job c.index-jobs-job.result c.requires.fits lt c.index-jobs-job.is

pub drop_link-requires-clause-slot : goal.drop_link-requires-clause-slot
drop_link-requires-clause-slot g c =
    let w = busy_within (map job_of c.args.jobs.now) (state g.L.Link.link_state c.args.run.now.job_table c.args.run.now.links.slots.items c.args.run.now.links.receivings.items (g.K.PartSink.kept c.args.keep.now c.args.on.now) c.args.run.now.lost.items) c.args.i c.in-Some.job c.requires.runs c.in-Some.ensures.some in
    let n = length-map c.args.run.now.links.slots.items (option_map g.L.Link.link_state) in
    omega (arith, w.slot, n, c.args.run.now.links.slots.ok, c.receive_at.ensures.length)

pub drop_link-requires-clause-within : goal.drop_link-requires-clause-within
drop_link-requires-clause-within g c =
    let w = busy_within (map job_of c.args.jobs.now) (state g.L.Link.link_state c.args.run.now.job_table c.args.run.now.links.slots.items c.args.run.now.links.receivings.items (g.K.PartSink.kept c.args.keep.now c.args.on.now) c.args.run.now.lost.items) c.args.i c.in-Some.job c.requires.runs c.in-Some.ensures.some in
    let lt : c.in-Some.job < length c.args.jobs.now = omega (arith, w.job, length-map c.args.jobs.now job_of) in
    let is = job_at job_of c.args.jobs.now c.in-Some.job c.index-jobs-job.result lt c.index-jobs-job.is in
    let same = lost_held c.in-Ok-Lost.field-0 c.in-Ok-Lost.cause (map job_of c.args.jobs.now) (state g.L.Link.link_state c.args.run.now.job_table c.args.run.now.links.slots.items c.args.run.now.links.receivings.items (g.K.PartSink.kept c.args.keep.now c.args.on.now) c.args.run.now.lost.items) c.args.i c.in-Some.job (job_of c.index-jobs-job.result) (map (option_map g.L.Link.link_state) c.receive_at.new.links.slots.items) c.receive_at.new.links.receivings.items (g.K.PartSink.kept c.receive_at.new.keep c.receive_at.new.on) c.in-Ok-Lost.field-0-is c.requires.runs c.in-Some.ensures.some is c.in-Ok-Lost.ensures.verdict in
    rw same w.kept

pub keep_only-requires : goal.keep_only-requires
keep_only-requires g c =
    let w = busy_within (map job_of c.args.jobs.now) (state g.L.Link.link_state c.args.run.now.job_table c.args.run.now.links.slots.items c.args.run.now.links.receivings.items (g.K.PartSink.kept c.args.keep.now c.args.on.now) c.args.run.now.lost.items) c.args.i c.in-Some.job c.requires.runs c.in-Some.ensures.some in
    let n = length-map c.args.run.now.links.slots.items (option_map g.L.Link.link_state) in
    omega (arith, w.slot, n, c.args.run.now.links.slots.ok, c.receive_at.ensures.length)

pub returns-in-Ok-More-clause-going : goal.returns-in-Ok-More-clause-going
returns-in-Ok-More-clause-going g c = λ b all go.
    let w = busy_within (map job_of c.args.jobs.now) (state g.L.Link.link_state c.args.run.now.job_table c.args.run.now.links.slots.items c.args.run.now.links.receivings.items (g.K.PartSink.kept c.args.keep.now c.args.on.now) c.args.run.now.lost.items) c.args.i c.in-Some.job c.requires.runs c.in-Some.ensures.some in
    let lt : c.in-Some.job < length c.args.jobs.now = omega (arith, w.job, length-map c.args.jobs.now job_of) in
    let is = job_at job_of c.args.jobs.now c.in-Some.job c.index-jobs-job.result lt c.index-jobs-job.is in
    let h = received_with c.in-Ok-More.field-0 verdicts.More (map job_of c.args.jobs.now) b (state g.L.Link.link_state c.args.run.now.job_table c.args.run.now.links.slots.items c.args.run.now.links.receivings.items (g.K.PartSink.kept c.args.keep.now c.args.on.now) c.args.run.now.lost.items) c.args.i c.in-Some.job (job_of c.index-jobs-job.result) (map (option_map g.L.Link.link_state) c.receive_at.new.links.slots.items) c.receive_at.new.links.receivings.items (g.K.PartSink.kept c.receive_at.new.keep c.receive_at.new.on) c.in-Ok-More.field-0-is go c.in-Some.ensures.some is c.in-Ok-More.ensures.verdict in
    going_more (map job_of c.args.jobs.now) b (state g.L.Link.link_state c.args.run.now.job_table c.args.run.now.links.slots.items c.args.run.now.links.receivings.items (g.K.PartSink.kept c.args.keep.now c.args.on.now) c.args.run.now.lost.items) (state g.L.Link.link_state c.note_frame.new.self c.receive_at.new.links.slots.items c.receive_at.new.links.receivings.items (g.K.PartSink.kept c.receive_at.new.keep c.receive_at.new.on) c.args.run.now.lost.items) c.args.i c.in-Some.job go c.in-Some.ensures.some h (c.note_frame.ensures.ends c.in-Some.job c.in-Some.ensures.some) refl

pub returns-in-Ok-More-clause-advances : goal.returns-in-Ok-More-clause-advances
returns-in-Ok-More-clause-advances g c =
    let w = busy_within (map job_of c.args.jobs.now) (state g.L.Link.link_state c.args.run.now.job_table c.args.run.now.links.slots.items c.args.run.now.links.receivings.items (g.K.PartSink.kept c.args.keep.now c.args.on.now) c.args.run.now.lost.items) c.args.i c.in-Some.job c.requires.runs c.in-Some.ensures.some in
    let lt : c.in-Some.job < length c.args.jobs.now = omega (arith, w.job, length-map c.args.jobs.now job_of) in
    let is = job_at job_of c.args.jobs.now c.in-Some.job c.index-jobs-job.result lt c.index-jobs-job.is in
    let b = c.requires.runs.began in
    let h = received_with c.in-Ok-More.field-0 verdicts.More (map job_of c.args.jobs.now) b (state g.L.Link.link_state c.args.run.now.job_table c.args.run.now.links.slots.items c.args.run.now.links.receivings.items (g.K.PartSink.kept c.args.keep.now c.args.on.now) c.args.run.now.lost.items) c.args.i c.in-Some.job (job_of c.index-jobs-job.result) (map (option_map g.L.Link.link_state) c.receive_at.new.links.slots.items) c.receive_at.new.links.receivings.items (g.K.PartSink.kept c.receive_at.new.keep c.receive_at.new.on) c.in-Ok-More.field-0-is c.requires.runs.going c.in-Some.ensures.some is c.in-Ok-More.ensures.verdict in
    more_advances (map job_of c.args.jobs.now) b (state g.L.Link.link_state c.args.run.now.job_table c.args.run.now.links.slots.items c.args.run.now.links.receivings.items (g.K.PartSink.kept c.args.keep.now c.args.on.now) c.args.run.now.lost.items) (state g.L.Link.link_state c.note_frame.new.self c.receive_at.new.links.slots.items c.receive_at.new.links.receivings.items (g.K.PartSink.kept c.receive_at.new.keep c.receive_at.new.on) c.args.run.now.lost.items) c.args.i c.in-Some.job h (c.note_frame.ensures.ends c.in-Some.job c.in-Some.ensures.some)

pub returns-in-Ok-Ended-clause-going : goal.returns-in-Ok-Ended-clause-going
returns-in-Ok-Ended-clause-going g c = λ b all go.
    let w = busy_within (map job_of c.args.jobs.now) (state g.L.Link.link_state c.args.run.now.job_table c.args.run.now.links.slots.items c.args.run.now.links.receivings.items (g.K.PartSink.kept c.args.keep.now c.args.on.now) c.args.run.now.lost.items) c.args.i c.in-Some.job c.requires.runs c.in-Some.ensures.some in
    let lt : c.in-Some.job < length c.args.jobs.now = omega (arith, w.job, length-map c.args.jobs.now job_of) in
    let is = job_at job_of c.args.jobs.now c.in-Some.job c.index-jobs-job.result lt c.index-jobs-job.is in
    let h = received_with c.in-Ok-Ended.field-0 verdicts.Ended (map job_of c.args.jobs.now) b (state g.L.Link.link_state c.args.run.now.job_table c.args.run.now.links.slots.items c.args.run.now.links.receivings.items (g.K.PartSink.kept c.args.keep.now c.args.on.now) c.args.run.now.lost.items) c.args.i c.in-Some.job (job_of c.index-jobs-job.result) (map (option_map g.L.Link.link_state) c.receive_at.new.links.slots.items) c.receive_at.new.links.receivings.items (g.K.PartSink.kept c.receive_at.new.keep c.receive_at.new.on) c.in-Ok-Ended.field-0-is go c.in-Some.ensures.some is c.in-Ok-Ended.ensures.verdict in
    going_ended (map job_of c.args.jobs.now) b (state g.L.Link.link_state c.args.run.now.job_table c.args.run.now.links.slots.items c.args.run.now.links.receivings.items (g.K.PartSink.kept c.args.keep.now c.args.on.now) c.args.run.now.lost.items) (state g.L.Link.link_state c.note_frame-in-Ok-Ended.new.self c.receive_at.new.links.slots.items c.receive_at.new.links.receivings.items (g.K.PartSink.kept c.receive_at.new.keep c.receive_at.new.on) c.args.run.now.lost.items) c.args.i c.in-Some.job all go c.in-Some.ensures.some h (c.note_frame-in-Ok-Ended.ensures.ends c.in-Some.job c.in-Some.ensures.some) refl

pub returns-in-Ok-Ended-clause-advances : goal.returns-in-Ok-Ended-clause-advances
returns-in-Ok-Ended-clause-advances g c =
    let w = busy_within (map job_of c.args.jobs.now) (state g.L.Link.link_state c.args.run.now.job_table c.args.run.now.links.slots.items c.args.run.now.links.receivings.items (g.K.PartSink.kept c.args.keep.now c.args.on.now) c.args.run.now.lost.items) c.args.i c.in-Some.job c.requires.runs c.in-Some.ensures.some in
    let lt : c.in-Some.job < length c.args.jobs.now = omega (arith, w.job, length-map c.args.jobs.now job_of) in
    let is = job_at job_of c.args.jobs.now c.in-Some.job c.index-jobs-job.result lt c.index-jobs-job.is in
    let b = c.requires.runs.began in
    let h = received_with c.in-Ok-Ended.field-0 verdicts.Ended (map job_of c.args.jobs.now) b (state g.L.Link.link_state c.args.run.now.job_table c.args.run.now.links.slots.items c.args.run.now.links.receivings.items (g.K.PartSink.kept c.args.keep.now c.args.on.now) c.args.run.now.lost.items) c.args.i c.in-Some.job (job_of c.index-jobs-job.result) (map (option_map g.L.Link.link_state) c.receive_at.new.links.slots.items) c.receive_at.new.links.receivings.items (g.K.PartSink.kept c.receive_at.new.keep c.receive_at.new.on) c.in-Ok-Ended.field-0-is c.requires.runs.going c.in-Some.ensures.some is c.in-Ok-Ended.ensures.verdict in
    ended_advances (map job_of c.args.jobs.now) b (state g.L.Link.link_state c.args.run.now.job_table c.args.run.now.links.slots.items c.args.run.now.links.receivings.items (g.K.PartSink.kept c.args.keep.now c.args.on.now) c.args.run.now.lost.items) (state g.L.Link.link_state c.note_frame-in-Ok-Ended.new.self c.receive_at.new.links.slots.items c.receive_at.new.links.receivings.items (g.K.PartSink.kept c.receive_at.new.keep c.receive_at.new.on) c.args.run.now.lost.items) c.args.i c.in-Some.job c.in-Some.ensures.some h (c.note_frame-in-Ok-Ended.ensures.ends c.in-Some.job c.in-Some.ensures.some)

pub returns-in-Ok-Lost-clause-going : goal.returns-in-Ok-Lost-clause-going
returns-in-Ok-Lost-clause-going g c =
    let w = busy_within (map job_of c.args.jobs.now) (state g.L.Link.link_state c.args.run.now.job_table c.args.run.now.links.slots.items c.args.run.now.links.receivings.items (g.K.PartSink.kept c.args.keep.now c.args.on.now) c.args.run.now.lost.items) c.args.i c.in-Some.job c.requires.runs c.in-Some.ensures.some in
    let lt : c.in-Some.job < length c.args.jobs.now = omega (arith, w.job, length-map c.args.jobs.now job_of) in
    let is = job_at job_of c.args.jobs.now c.in-Some.job c.index-jobs-job.result lt c.index-jobs-job.is in
    lost_goes c.drop_link.result c.in-Ok-Lost.field-0 c.in-Ok-Lost.cause (map job_of c.args.jobs.now) (state g.L.Link.link_state c.args.run.now.job_table c.args.run.now.links.slots.items c.args.run.now.links.receivings.items (g.K.PartSink.kept c.args.keep.now c.args.on.now) c.args.run.now.lost.items) (state g.L.Link.link_state c.drop_link.new.run.job_table c.drop_link.new.run.links.slots.items c.drop_link.new.run.links.receivings.items (g.K.PartSink.kept c.drop_link.new.keep c.drop_link.new.on) c.drop_link.new.run.lost.items) c.args.i c.in-Some.job (job_of c.index-jobs-job.result) (map (option_map g.L.Link.link_state) c.receive_at.new.links.slots.items) c.receive_at.new.links.receivings.items (g.K.PartSink.kept c.receive_at.new.keep c.receive_at.new.on) c.in-Ok-Lost.field-0-is c.in-Some.ensures.some is c.in-Ok-Lost.ensures.verdict
    c.drop_link.ensures.job_table (on_ok c.drop_link.result _ _ c.drop_link.ensures.slots (slots_lost g.L.Link.link_state c.receive_at.new.links.slots.items c.drop_link.new.run.links.slots.items c.args.i)) c.drop_link.ensures.receivings c.drop_link.ensures.kept c.drop_link.ensures.lost

pub returns-in-Ok-Lost-clause-advances : goal.returns-in-Ok-Lost-clause-advances
returns-in-Ok-Lost-clause-advances g c =
    let w = busy_within (map job_of c.args.jobs.now) (state g.L.Link.link_state c.args.run.now.job_table c.args.run.now.links.slots.items c.args.run.now.links.receivings.items (g.K.PartSink.kept c.args.keep.now c.args.on.now) c.args.run.now.lost.items) c.args.i c.in-Some.job c.requires.runs c.in-Some.ensures.some in
    let lt : c.in-Some.job < length c.args.jobs.now = omega (arith, w.job, length-map c.args.jobs.now job_of) in
    let is = job_at job_of c.args.jobs.now c.in-Some.job c.index-jobs-job.result lt c.index-jobs-job.is in
    let same = lost_held c.in-Ok-Lost.field-0 c.in-Ok-Lost.cause (map job_of c.args.jobs.now) (state g.L.Link.link_state c.args.run.now.job_table c.args.run.now.links.slots.items c.args.run.now.links.receivings.items (g.K.PartSink.kept c.args.keep.now c.args.on.now) c.args.run.now.lost.items) c.args.i c.in-Some.job (job_of c.index-jobs-job.result) (map (option_map g.L.Link.link_state) c.receive_at.new.links.slots.items) c.receive_at.new.links.receivings.items (g.K.PartSink.kept c.receive_at.new.keep c.receive_at.new.on) c.in-Ok-Lost.field-0-is c.requires.runs c.in-Some.ensures.some is c.in-Ok-Lost.ensures.verdict in
    lost_adv c.drop_link.result (map job_of c.args.jobs.now) (state g.L.Link.link_state c.args.run.now.job_table c.args.run.now.links.slots.items c.args.run.now.links.receivings.items (g.K.PartSink.kept c.args.keep.now c.args.on.now) c.args.run.now.lost.items) (state g.L.Link.link_state c.drop_link.new.run.job_table c.drop_link.new.run.links.slots.items c.drop_link.new.run.links.receivings.items (g.K.PartSink.kept c.drop_link.new.keep c.drop_link.new.on) c.drop_link.new.run.lost.items) c.args.i c.in-Some.job (g.K.PartSink.kept c.receive_at.new.keep c.receive_at.new.on) same c.in-Some.ensures.some c.drop_link.ensures.job_table c.drop_link.ensures.kept

pub returns-in-Ok-Lost-clause-fault : goal.returns-in-Ok-Lost-clause-fault
returns-in-Ok-Lost-clause-fault g c =
    let w = busy_within (map job_of c.args.jobs.now) (state g.L.Link.link_state c.args.run.now.job_table c.args.run.now.links.slots.items c.args.run.now.links.receivings.items (g.K.PartSink.kept c.args.keep.now c.args.on.now) c.args.run.now.lost.items) c.args.i c.in-Some.job c.requires.runs c.in-Some.ensures.some in
    let lt : c.in-Some.job < length c.args.jobs.now = omega (arith, w.job, length-map c.args.jobs.now job_of) in
    let is = job_at job_of c.args.jobs.now c.in-Some.job c.index-jobs-job.result lt c.index-jobs-job.is in
    let same = lost_held c.in-Ok-Lost.field-0 c.in-Ok-Lost.cause (map job_of c.args.jobs.now) (state g.L.Link.link_state c.args.run.now.job_table c.args.run.now.links.slots.items c.args.run.now.links.receivings.items (g.K.PartSink.kept c.args.keep.now c.args.on.now) c.args.run.now.lost.items) c.args.i c.in-Some.job (job_of c.index-jobs-job.result) (map (option_map g.L.Link.link_state) c.receive_at.new.links.slots.items) c.receive_at.new.links.receivings.items (g.K.PartSink.kept c.receive_at.new.keep c.receive_at.new.on) c.in-Ok-Lost.field-0-is c.requires.runs c.in-Some.ensures.some is c.in-Ok-Lost.ensures.verdict in
    lost_fault c.drop_link.result (map job_of c.args.jobs.now) (state g.L.Link.link_state c.args.run.now.job_table c.args.run.now.links.slots.items c.args.run.now.links.receivings.items (g.K.PartSink.kept c.args.keep.now c.args.on.now) c.args.run.now.lost.items) (state g.L.Link.link_state c.drop_link.new.run.job_table c.drop_link.new.run.links.slots.items c.drop_link.new.run.links.receivings.items (g.K.PartSink.kept c.drop_link.new.keep c.drop_link.new.on) c.drop_link.new.run.lost.items) (g.K.PartSink.kept c.receive_at.new.keep c.receive_at.new.on) same c.drop_link.ensures.quiet

pub returns-in-Err-Unread-clause-fault : goal.returns-in-Err-Unread-clause-fault
returns-in-Err-Unread-clause-fault g c =
    let w = busy_within (map job_of c.args.jobs.now) (state g.L.Link.link_state c.args.run.now.job_table c.args.run.now.links.slots.items c.args.run.now.links.receivings.items (g.K.PartSink.kept c.args.keep.now c.args.on.now) c.args.run.now.lost.items) c.args.i c.in-Some.job c.requires.runs c.in-Some.ensures.some in
    let lt : c.in-Some.job < length c.args.jobs.now = omega (arith, w.job, length-map c.args.jobs.now job_of) in
    let is = job_at job_of c.args.jobs.now c.in-Some.job c.index-jobs-job.result lt c.index-jobs-job.is in
    unread_leaves c.in-Err-Unread.field-0 c.in-Err-Unread.item (map job_of c.args.jobs.now) (state g.L.Link.link_state c.args.run.now.job_table c.args.run.now.links.slots.items c.args.run.now.links.receivings.items (g.K.PartSink.kept c.args.keep.now c.args.on.now) c.args.run.now.lost.items) c.args.i c.in-Some.job (job_of c.index-jobs-job.result) (map (option_map g.L.Link.link_state) c.receive_at.new.links.slots.items) (map (option_map g.L.Link.link_state) c.keep_only.new.slots.items) c.receive_at.new.links.receivings.items (g.K.PartSink.kept c.receive_at.new.keep c.receive_at.new.on) c.in-Err-Unread.field-0-is c.in-Some.ensures.some is c.in-Err-Unread.ensures.fault c.keep_only.ensures

pub returns-in-Err-PartSink-clause-fault : goal.returns-in-Err-PartSink-clause-fault
returns-in-Err-PartSink-clause-fault g c =
    let w = busy_within (map job_of c.args.jobs.now) (state g.L.Link.link_state c.args.run.now.job_table c.args.run.now.links.slots.items c.args.run.now.links.receivings.items (g.K.PartSink.kept c.args.keep.now c.args.on.now) c.args.run.now.lost.items) c.args.i c.in-Some.job c.requires.runs c.in-Some.ensures.some in
    let lt : c.in-Some.job < length c.args.jobs.now = omega (arith, w.job, length-map c.args.jobs.now job_of) in
    let is = job_at job_of c.args.jobs.now c.in-Some.job c.index-jobs-job.result lt c.index-jobs-job.is in
    keep_rises c.in-Err-PartSink.field-0 (map job_of c.args.jobs.now) (state g.L.Link.link_state c.args.run.now.job_table c.args.run.now.links.slots.items c.args.run.now.links.receivings.items (g.K.PartSink.kept c.args.keep.now c.args.on.now) c.args.run.now.lost.items) c.args.i c.in-Some.job (job_of c.index-jobs-job.result) (map (option_map g.L.Link.link_state) c.receive_at.new.links.slots.items) c.receive_at.new.links.receivings.items (g.K.PartSink.kept c.receive_at.new.keep c.receive_at.new.on) c.in-Err-PartSink.field-0-is c.requires.runs c.in-Some.ensures.some is c.in-Err-PartSink.ensures.fault

pub returns-in-Ok-Lost-clause-known : goal.returns-in-Ok-Lost-clause-known
returns-in-Ok-Lost-clause-known g c =
    let w = busy_within (map job_of c.args.jobs.now) (state g.L.Link.link_state c.args.run.now.job_table c.args.run.now.links.slots.items c.args.run.now.links.receivings.items (g.K.PartSink.kept c.args.keep.now c.args.on.now) c.args.run.now.lost.items) c.args.i c.in-Some.job c.requires.runs c.in-Some.ensures.some in
    let lt : c.in-Some.job < length c.args.jobs.now = omega (arith, w.job, length-map c.args.jobs.now job_of) in
    let is = job_at job_of c.args.jobs.now c.in-Some.job c.index-jobs-job.result lt c.index-jobs-job.is in
    lost_known c.drop_link.result c.in-Ok-Lost.field-0 c.in-Ok-Lost.cause (map job_of c.args.jobs.now) (state g.L.Link.link_state c.args.run.now.job_table c.args.run.now.links.slots.items c.args.run.now.links.receivings.items (g.K.PartSink.kept c.args.keep.now c.args.on.now) c.args.run.now.lost.items) c.args.i c.in-Some.job (job_of c.index-jobs-job.result) (map (option_map g.L.Link.link_state) c.receive_at.new.links.slots.items) c.receive_at.new.links.receivings.items (g.K.PartSink.kept c.receive_at.new.keep c.receive_at.new.on) c.drop_link.new.run.lost.items c.in-Ok-Lost.field-0-is c.in-Some.ensures.some is c.in-Ok-Lost.ensures.verdict c.drop_link.ensures.known
