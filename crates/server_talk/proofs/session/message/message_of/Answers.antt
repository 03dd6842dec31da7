use Rattle.server_talk.specs.Fault.{◌>>=◌}
use Rattle.server_talk.specs.Message.{take_at, body_of}
use Rattle.server_talk.specs.Views.{message_view}
use Rattle.std.proofs.Common.{Ok}
use Rattle.server_talk.proofs.Reading.{reads_on, gives_reads}
use Rattle.server_talk.proofs.session.message.message_of.Goals as goal

pub returns-clause-read : goal.returns-clause-read
returns-clause-read g c =
    let last = (g.V.ServerConnection.state c.take.new.connection).pending in
    reads_on message_view c.in_ok-body.body.items c.body_of.result (g.V.ServerConnection.state c.args.connection.now).pending last last (take_at c.args.count) (λ b. body_of c.args.at c.args.kind c.args.count b.0 >>= λ m. Ok (m, b.1))
    c.in_ok-body.ensures.read
    (gives_reads message_view c.body_of.result last (body_of c.args.at c.args.kind c.args.count c.in_ok-body.body.items) c.body_of.ensures.value)
