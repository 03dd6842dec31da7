use Rattle.std.proofs.Common.{◌≡◌, ◌∙◌, refl, sym, subst, true, false}
use Rattle.worker_protocol.specs.Views.{job_of}
use Rattle.worker_protocol.specs.declared.sinks.ItemEnd.TheVariants.{Vanished as Gone}
use Rattle.worker_pool.specs.Reads.{IsHonest}
use Rattle.worker_pool.specs.Going.{VerdictHolds}
use Rattle.worker_pool.proofs.Modelled.{worker_honest}
use Rattle.worker_pool.proofs.Steps.{next_is, gone_held, gone_rest, gone_true, end_on, ended_counts}
use Rattle.worker_pool.proofs.replies.reply.take_absent.Goals as goal

pub returns-then-not-may_be_absent-clause-verdict : goal.returns-then-not-may_be_absent-clause-verdict
returns-then-not-may_be_absent-clause-verdict g c = λ from old new k a t.
    let n : ¬ IsHonest from = λ w. absurd (let yes : c.may_be_absent.result ≡ true = c.may_be_absent.ensures.1 (gone_true from old new _ k c.args.receiving.now a.goes t w) in let none : c.may_be_absent.result ≡ false = c.if-not-may_be_absent.true in cc) in
    (refl, (λ w. n (worker_honest from w)), tt, n)

pub end-requires-clause-next : goal.end-requires-clause-next
end-requires-clause-next g c = next_is _ _ c.args.receiving.now _ c.requires.at

pub returns-clause-verdict : goal.returns-clause-verdict
returns-clause-verdict g c = λ from old new k a t.
    let h = c.args.receiving.now in
    let n = c.receive_next.new.self in
    let right = c.may_be_absent.ensures.0 c.if-not-may_be_absent.false in
    let ended = gone_held from old new (job_of c.args.job.now) k h a.goes t right.0 right.1 in
    let rest = gone_rest from old new (job_of c.args.job.now) k h a.goes t in
    subst (λ v. VerdictHolds v from new (job_of c.args.job.now) c.args.number n k (g.K.PartSink.kept c.args.keep.now c.args.on.now) (g.K.PartSink.kept c.end.new.self c.end.new.on)) (sym c.after_end.ensures)
    (end_on from old new (job_of c.args.job.now) c.args.number k h n Gone (g.K.PartSink.kept c.args.keep.now c.args.on.now) (g.K.PartSink.kept c.end.new.self c.end.new.on) a c.in_ok-end.ensures.kept c.receive_next.ensures.next ended rest)

pub returns-clause-counts : goal.returns-clause-counts
returns-clause-counts g c = ended_counts (job_of c.args.job.now) c.args.receiving.now.item c.args.receiving.now.received_reply 5 c.receive_next.new.self.received_reply c.after_end.result c.after_end.ensures (c.receive_next.ensures.counts ∙ c.saturating_add-received_reply.ensures)
