use Rattle.std.proofs.Common.{◌≡◌, refl, true, false}
use Rattle.worker_pool.specs.Reads.{IsHonest}
use Rattle.worker_pool.proofs.Modelled.{worker_honest}
use Rattle.worker_pool.proofs.Steps.{part_small, part_room, part_follows, part_on}
use Rattle.worker_pool.proofs.replies.reply.take_part.Goals as goal

pub returns-then-not-may_follow-clause-verdict : goal.returns-then-not-may_follow-clause-verdict
returns-then-not-may_follow-clause-verdict g c = λ from old new k a t.
    let n : ¬ IsHonest from = λ w. absurd (let yes : c.may_follow.result ≡ true = c.may_follow.ensures.1 (part_follows from old new _ k c.args.receiving.now c.args.bytes.now a.goes t c.requires.some c.requires.few w) in let none : c.may_follow.result ≡ false = c.if-not-may_follow.true in cc) in
    (refl, (λ w. n (worker_honest from w)), tt, n)

pub part-requires-clause-room : goal.part-requires-clause-room
part-requires-clause-room g c = part_room _ _ c.args.receiving.now _ c.args.bytes.now c.requires.at (c.may_follow.ensures.0 c.if-not-may_follow.false) c.requires.some c.requires.few

pub receive_more-requires : goal.receive_more-requires
receive_more-requires g c = part_small _ _ c.args.receiving.now _ c.args.bytes.now c.requires.at c.requires.fits (c.may_follow.ensures.0 c.if-not-may_follow.false)

pub returns-clause-verdict : goal.returns-clause-verdict
returns-clause-verdict g c = λ from old new k a t.
    part_on from old new _ _ k c.args.receiving.now c.receive_more.new.self c.args.bytes.now _ _ a c.in_ok-part.ensures.kept c.receive_more.ensures.more t (c.may_follow.ensures.0 c.if-not-may_follow.false) c.requires.some c.requires.few
