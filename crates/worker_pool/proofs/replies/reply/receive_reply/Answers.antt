use Rattle.std.proofs.Common.{refl}
use Rattle.worker_protocol.specs.Frames.{spell}
use Rattle.worker_protocol.specs.Views.{job_of}
use Rattle.worker_protocol.specs.Receives.{frame_of}
use Rattle.worker_pool.specs.Going.{At, VerdictHolds, FaultHolds}
use Rattle.worker_pool.proofs.Steps.{received_ok, received_err, lost_cause, lost_refuted, reply_offered, reply_blames, received_counts, lost_received}
use Rattle.worker_pool.proofs.replies.reply.receive_reply.Goals as goal

pub returns-in-Ok-clause-verdict : goal.returns-in-Ok-clause-verdict
returns-in-Ok-clause-verdict g c =
    received_ok c.take_frame.result (λ v from new k. VerdictHolds v from new (job_of c.args.job.now) c.args.number c.take_frame.new.receiving k (g.K.PartSink.kept c.args.keep.now c.args.on.now) (g.K.PartSink.kept c.take_frame.new.keep c.take_frame.new.on)) (λ from old k. At from old (job_of c.args.job.now) c.args.number c.args.receiving.now (g.K.PartSink.kept c.args.keep.now c.args.on.now) k) (spell (frame_of c.in-Ok.frame)) _ _ c.in-Ok.ensures.takes.known c.take_frame.ensures.verdict

pub returns-in-Ok-clause-fault : goal.returns-in-Ok-clause-fault
returns-in-Ok-clause-fault g c =
    received_err c.take_frame.result (λ e from. FaultHolds e from (job_of c.args.job.now) c.args.receiving.now.item (g.K.PartSink.kept c.args.keep.now c.args.on.now) (g.K.PartSink.kept c.take_frame.new.keep c.take_frame.new.on)) (λ from old k. At from old (job_of c.args.job.now) c.args.number c.args.receiving.now (g.K.PartSink.kept c.args.keep.now c.args.on.now) k) (spell (frame_of c.in-Ok.frame)) _ _ c.in-Ok.ensures.takes.known c.take_frame.ensures.fault

pub returns-in-Err-Lost-clause-verdict : goal.returns-in-Err-Lost-clause-verdict
returns-in-Err-Lost-clause-verdict g c = λ from k a. (
  refl,
  λ w. lost_refuted c.in-Err-Lost.field-0 c.in-Err-Lost.cause _ c.in-Err-Lost.field-0-is c.in-Err-Lost.ensures.steady (reply_offered from (g.L.Link.link_state c.args.link.now) (job_of c.args.job.now) k c.args.receiving.now a.goes c.requires.fits w),
  lost_cause c.in-Err-Lost.field-0 c.in-Err-Lost.cause _ _ _ c.in-Err-Lost.field-0-is c.in-Err-Lost.ensures.lost,
  reply_blames c.in-Err-Lost.field-0 c.in-Err-Lost.cause from (g.L.Link.link_state c.args.link.now) (job_of c.args.job.now) k c.args.receiving.now c.in-Err-Lost.field-0-is c.in-Err-Lost.ensures.form a.goes c.requires.fits,
)

pub returns-in-Ok-clause-received_reply : goal.returns-in-Ok-clause-received_reply
returns-in-Ok-clause-received_reply g c = received_counts c.take_frame.result c.args.receiving.now.received_reply c.take_frame.new.receiving.received_reply _ _ (spell (frame_of c.in-Ok.frame)) c.in-Ok.ensures.takes c.take_frame.ensures.counts

pub returns-in-Err-Lost-clause-received_reply : goal.returns-in-Err-Lost-clause-received_reply
returns-in-Err-Lost-clause-received_reply g c = lost_received c.in-Err-Lost.field-0 c.in-Err-Lost.cause c.args.receiving.now.received_reply c.args.receiving.now.received_reply _ _ c.in-Err-Lost.field-0-is c.in-Err-Lost.ensures.lost
