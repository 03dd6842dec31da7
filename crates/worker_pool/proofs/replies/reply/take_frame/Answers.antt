use Rattle.std.proofs.Common.{◌∙◌, refl, sym, ap, subst}
use Rattle.worker_protocol.specs.Frames.{spell}
use Rattle.worker_protocol.specs.Frames.Frame.{Part, End, Vanished}
use Rattle.worker_protocol.specs.Views.{job_of}
use Rattle.worker_protocol.specs.Takes.{TakesPrefix}
use Rattle.worker_protocol.specs.Receives.{frame_of}
use Rattle.worker_pool.specs.Going.{At, VerdictHolds}
use Rattle.worker_pool.proofs.Steps.{as_frame, unread_by}
use Rattle.worker_pool.proofs.replies.reply.take_frame.Goals as goal

pub returns-in-Part-clause-verdict : goal.returns-in-Part-clause-verdict
returns-in-Part-clause-verdict g c =
    as_frame c.take_part.result (λ v from new k. VerdictHolds v from new (job_of c.args.job.now) c.args.number c.take_part.new.receiving k (g.K.PartSink.kept c.args.keep.now c.args.on.now) (g.K.PartSink.kept c.take_part.new.keep c.take_part.new.on)) (λ from old k. At from old (job_of c.args.job.now) c.args.number c.args.receiving.now (g.K.PartSink.kept c.args.keep.now c.args.on.now) k) (spell (Part c.deref.result.now)) (spell (frame_of c.args.frame)) (ap (λ x. spell (Part x)) c.deref.ensures.value ∙ ap (λ h. spell (frame_of h)) (sym c.in-Part.is)) c.take_part.ensures.verdict

pub returns-in-End-clause-verdict : goal.returns-in-End-clause-verdict
returns-in-End-clause-verdict g c =
    as_frame c.take_end.result (λ v from new k. VerdictHolds v from new (job_of c.args.job.now) c.args.number c.take_end.new.receiving k (g.K.PartSink.kept c.args.keep.now c.args.on.now) (g.K.PartSink.kept c.take_end.new.keep c.take_end.new.on)) (λ from old k. At from old (job_of c.args.job.now) c.args.number c.args.receiving.now (g.K.PartSink.kept c.args.keep.now c.args.on.now) k) (spell (End c.in-End.length c.in-End.sum.0)) (spell (frame_of c.args.frame)) (ap (λ h. spell (frame_of h)) (sym c.in-End.is)) c.take_end.ensures.verdict

pub returns-in-Vanished-clause-verdict : goal.returns-in-Vanished-clause-verdict
returns-in-Vanished-clause-verdict g c =
    as_frame c.take_absent.result (λ v from new k. VerdictHolds v from new (job_of c.args.job.now) c.args.number c.take_absent.new.receiving k (g.K.PartSink.kept c.args.keep.now c.args.on.now) (g.K.PartSink.kept c.take_absent.new.keep c.take_absent.new.on)) (λ from old k. At from old (job_of c.args.job.now) c.args.number c.args.receiving.now (g.K.PartSink.kept c.args.keep.now c.args.on.now) k) (spell Vanished) (spell (frame_of c.args.frame)) (ap (λ h. spell (frame_of h)) (sym c.in-Vanished.is)) c.take_absent.ensures.verdict

pub returns-in-Unread-clause-fault : goal.returns-in-Unread-clause-fault
returns-in-Unread-clause-fault g c = λ from old new k a t.
    (refl, refl, λ i e. unread_by from old new (job_of c.args.job.now) k c.args.receiving.now i a.goes (subst (λ h. TakesPrefix old new (spell (frame_of h))) c.in-Unread.is t) e)
