use Rattle.server_talk.specs.declared.session.phase.Phase.TheVariants.{Heading}
use Rattle.server_talk.specs.Session.{row_at, asked, part_of}
use Rattle.server_talk.specs.Talk.{talk_at}
use Rattle.server_talk.specs.Views.{session_view, talk_view}
use Rattle.server_talk.proofs.Reading.{reads_part, fails_first}
use Rattle.server_talk.proofs.session.calls.ask_row.Goals as goal

pub returns-in-Ok-clause-read : goal.returns-in-Ok-clause-read
unfolding row_at
returns-in-Ok-clause-read g c =
    reads_part asked (talk_view c.in-Ok.talk) (g.V.ServerConnection.state c.args.connection.now).pending (g.V.ServerConnection.state c.ask.new.connection).pending (talk_at Heading c.args.columns (session_view c.args.session.now)) c.in-Ok.ensures.read

pub returns-in-Err-clause-read : goal.returns-in-Err-clause-read
unfolding row_at
returns-in-Err-clause-read g c =
    fails_first c.in-Err.fault (g.V.ServerConnection.state c.args.connection.now).pending (talk_at Heading c.args.columns (session_view c.args.session.now)) (part_of asked) c.in-Err.ensures.read
