use Rattle.server_talk.proofs.Reading.{take_reads}
use Rattle.server_talk.proofs.session.take.take.Goals as goal

pub returns-clause-read : goal.returns-clause-read
returns-clause-read g c = take_reads (λ v. v.items) c.args.count c.gather.result (g.V.ServerConnection.state c.args.connection.now).pending (g.V.ServerConnection.state c.gather.new.connection).pending c.gather.ensures.outside c.gather.ensures.bytes c.gather.ensures.rest
