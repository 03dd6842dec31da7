use Rattle.std.proofs.Common.{Err, inr, refl}
use Rattle.server_talk.specs.Fault.{form}
use Rattle.server_talk.specs.Rows.{started, unstarted}
use Rattle.server_talk.proofs.session.queries.start_of.Goals as goal

pub returns-in-Some-clause-value : goal.returns-in-Some-clause-value
returns-in-Some-clause-value c = started c.in-Some.started c.in-Some.ensures.value

pub returns-in-None-clause-value : goal.returns-in-None-clause-value
returns-in-None-clause-value c = inr (Err (form c.args.talk.now.row_end), unstarted c.in-None.ensures.none, refl)
