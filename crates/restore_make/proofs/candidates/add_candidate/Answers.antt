use Rattle.std.proofs.Common.{inl, inr, refl}
use Rattle.restore_make.proofs.candidates.add_candidate.Goals as goal

pub returns-in_ok-push-in-Some : goal.returns-in_ok-push-in-Some
returns-in_ok-push-in-Some c = inr (c.in-Some.candidate, c.in_ok-push-in-Some.ensures.items, c.in-Some.ensures.some)

pub returns-in-None : goal.returns-in-None
returns-in-None c = inl (refl, c.in-None.ensures.none)
