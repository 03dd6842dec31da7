use Rattle.std.proofs.Common.{ℕ, Err, inr, refl, subst}
use Rattle.server_talk.specs.Fault.{form, mismatch}
use Rattle.server_talk.specs.Rows.{IsSystemRow, same, other, wrong}
use Rattle.server_talk.specs.Views.{talk_view}
use Rattle.server_talk.proofs.session.queries.system_of.Goals as goal

pub returns-in_default-clause-value : goal.returns-in_default-clause-value
returns-in_default-clause-value c = inr (Err (form c.args.talk.now.row_end), wrong c.in_default.ensures.none, refl)

pub returns-then-found-kept-clause-value : goal.returns-then-found-kept-clause-value
returns-then-found-kept-clause-value c = same c.in-Some.size.0 (subst (λ (n : ℕ). IsSystemRow (talk_view c.args.talk.now) n c.in-Some.size.0) c.if-found-kept.true c.in-Some.ensures.value)

pub returns-else-found-kept-clause-value : goal.returns-else-found-kept-clause-value
returns-else-found-kept-clause-value c = inr (Err (mismatch c.args.kept c.in-Some.found), other c.in-Some.found c.in-Some.size.0 c.in-Some.ensures.value c.if-found-kept.false, refl)
