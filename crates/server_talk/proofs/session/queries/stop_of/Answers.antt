use Rattle.std.proofs.Common.{Option, Err, inr, refl, subst, IfSome, IfNone}
use Rattle.server_talk.specs.declared.session.known.Stopped.{Stopped}
use Rattle.server_talk.specs.Fault.{form}
use Rattle.server_talk.specs.Rows.{stopped, unstopped, IsStopRow, Stop}
use Rattle.server_talk.specs.Views.{stopped_view, talk_view}
use Rattle.server_talk.proofs.session.queries.stop_of.Goals as goal

pub returns-in-Ok-Some-clause-value : goal.returns-in-Ok-Some-clause-value
returns-in-Ok-Some-clause-value c = stopped (stopped_view c.in-Ok-Some.stopped) (subst (λ (o : Option Stopped). IfSome o (λ s. IsStopRow (talk_view c.args.talk.now) (stopped_view s))) c.in-Ok-Some.field-0-is c.in-Ok-Some.ensures.value)

pub returns-in-Ok-None-clause-value : goal.returns-in-Ok-None-clause-value
returns-in-Ok-None-clause-value c = inr (Err (form c.args.talk.now.row_end), unstopped (subst (λ (o : Option Stopped). IfNone o ((s : Stop) → ¬ IsStopRow (talk_view c.args.talk.now) s)) c.in-Ok-None.field-0-is c.in-Ok-None.ensures.none), refl)
