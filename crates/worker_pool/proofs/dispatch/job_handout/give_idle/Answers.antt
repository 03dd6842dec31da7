use Rattle.std.proofs.Common.{refl, inl}
use Rattle.worker_pool.proofs.dispatch.job_handout.give_idle.Goals as goal

pub returns-clause-settles : goal.returns-clause-settles
returns-clause-settles g c = inl (refl, λ idle. absurd (c.is_idle.ensures.no c.if-is_idle.false idle))
