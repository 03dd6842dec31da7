use Rattle.std.proofs.Common.{◌≡◌, ◌∙◌, ◌<◌, ◌^◌, length, rules, refl, sym, subst}
use Rattle.worker_protocol.specs.Views.{job_of}
use Rattle.worker_protocol.specs.declared.sinks.ItemEnd.TheVariants.{Whole}
use Rattle.worker_pool.specs.Reads.{IsHonest}
use Rattle.worker_pool.specs.Going.{VerdictHolds}
use Rattle.worker_pool.proofs.Modelled.{worker_honest}
use Rattle.worker_pool.proofs.Steps.{next_is, end_held, end_rest, end_true, end_on, blames, ended_counts, cause_counts}
use Rattle.worker_pool.proofs.replies.reply.take_end.Goals as goal

pub returns-in-Some-clause-verdict : goal.returns-in-Some-clause-verdict
returns-in-Some-clause-verdict g c = λ from old new k a t.
    let n : ¬ IsHonest from = λ w. c.in-Some.ensures.wrong (end_true from old new _ k c.args.receiving.now c.args.length c.args.sum.0 c.receive_next-found.result.0 a.goes t c.requires.fits (search rules) (search rules) c.receive_next-found.ensures.sum w) in
    (refl, (λ w. n (worker_honest from w)), c.in-Some.ensures.cause, blames c.in-Some.cause from n)

pub end-requires-clause-next : goal.end-requires-clause-next
end-requires-clause-next g c = next_is _ _ c.args.receiving.now _ c.requires.at

pub returns-clause-verdict : goal.returns-clause-verdict
returns-clause-verdict g c = λ from old new k a t.
    let h = c.args.receiving.now in
    let n = c.receive_next-found.new.self in
    let number : c.args.length < 2 ^ 64 = search rules in
    let sum : length c.args.sum.0 ≡ 20 = search rules in
    let ended = end_held from old new (job_of c.args.job.now) k h c.args.length c.args.sum c.receive_next-found.result.0 a.goes t c.requires.fits number sum c.receive_next-found.ensures.sum c.in_default.ensures.right in
    let rest = end_rest from old new (job_of c.args.job.now) k h c.args.length c.args.sum.0 a.goes t c.requires.fits number sum in
    subst (λ v. VerdictHolds v from new (job_of c.args.job.now) c.args.number n k (g.K.PartSink.kept c.args.keep.now c.args.on.now) (g.K.PartSink.kept c.end.new.self c.end.new.on)) (sym c.after_end.ensures)
    (end_on from old new (job_of c.args.job.now) c.args.number k h n (Whole c.args.length c.args.sum) (g.K.PartSink.kept c.args.keep.now c.args.on.now) (g.K.PartSink.kept c.end.new.self c.end.new.on) a c.in_ok-end.ensures.kept c.receive_next-found.ensures.next ended rest)

pub returns-clause-counts : goal.returns-clause-counts
returns-clause-counts g c = ended_counts (job_of c.args.job.now) c.args.receiving.now.item c.args.receiving.now.received_reply 33 c.receive_next-found.new.self.received_reply c.after_end.result c.after_end.ensures (c.receive_next-found.ensures.counts ∙ c.saturating_add-received_reply.ensures)

pub returns-in-Some-clause-counts : goal.returns-in-Some-clause-counts
returns-in-Some-clause-counts g c = cause_counts c.in-Some.cause c.args.receiving.now.received_reply 33 c.saturating_add-received_reply.result c.receive_next-found.new.self.received_reply c.in-Some.ensures.counts c.saturating_add-received_reply.ensures c.receive_next-found.ensures.counts
