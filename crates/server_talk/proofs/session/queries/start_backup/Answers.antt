use Rattle.server_talk.specs.declared.session.phase.Phase.TheVariants.{Heading}
use Rattle.server_talk.specs.Rows.{StartOutcome}
use Rattle.server_talk.specs.Talk.{talk_at}
use Rattle.server_talk.specs.Views.{session_view, talk_view}
use Rattle.server_talk.proofs.Telling.{known_refuses}
use Rattle.server_talk.proofs.session.queries.start_backup.Goals as goal

pub returns-clause-read : goal.returns-clause-read
returns-clause-read g c =
    known_refuses StartOutcome (g.V.ServerConnection.state c.args.connection.now).pending (talk_at Heading 2 (session_view c.args.session.now)) c.in-Err-start_of.fault (talk_view c.in-Ok.talk) (g.V.ServerConnection.state c.ask.new.connection).pending c.in-Ok.ensures.read c.in-Err-start_of.ensures.value
