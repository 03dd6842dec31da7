use Rattle.std.proofs.Common.{Ok, Err, ◌≡◌, subst, sym, List, ℕ}
use Rattle.server_talk.specs.Fault.{◌>>=◌}
use Rattle.server_talk.specs.Message.{take_at, header_of, message_of, message_at}
use Rattle.server_talk.specs.Views.{message_view}
use Rattle.server_talk.specs.Reads.{Reads, Fails}
use Rattle.server_talk.proofs.Reading.{reads_on, fails_all}
use Rattle.server_talk.proofs.session.message.message_at.Goals as goal

pub returns-in-Ok-clause-read : goal.returns-in-Ok-clause-read
unfolding message_at
returns-in-Ok-clause-read g c =
    let old = (g.V.ServerConnection.state c.args.connection.now).pending in
    let mid = (g.V.ServerConnection.state c.take.new.connection).pending in
    let new = (g.V.ServerConnection.state c.message_of.new.connection).pending in
    let header = c.in_ok-header.header.items in
    let e = subst (λ (h : List ℕ). header_of c.args.phase c.args.at h ≡ Ok (c.in-Ok.kind, c.in-Ok.count)) c.deref.ensures.value c.in-Ok.ensures.value in
    reads_on message_view header c.message_of.result old mid new (take_at 5) (λ p. header_of c.args.phase c.args.at p.0 >>= λ h. message_of c.args.at h p.1)
    c.in_ok-header.ensures.read
    (subst (λ q. Reads message_view c.message_of.result mid new (λ rest. q >>= λ h. message_of c.args.at h rest)) (sym e) c.message_of.ensures.read)

pub returns-clause-read : goal.returns-clause-read
unfolding message_at
returns-clause-read g c =
    let old = (g.V.ServerConnection.state c.args.connection.now).pending in
    let mid = (g.V.ServerConnection.state c.take.new.connection).pending in
    let header = c.in_ok-header.header.items in
    let e = subst (λ (h : List ℕ). Fails c.in-Err.fault (header_of c.args.phase c.args.at h)) c.deref.ensures.value c.in-Err.ensures.value in
    reads_on message_view header (Err c.in-Err.fault) old mid mid (take_at 5) (λ p. header_of c.args.phase c.args.at p.0 >>= λ h. message_of c.args.at h p.1)
    c.in_ok-header.ensures.read
    (fails_all c.in-Err.fault mid (header_of c.args.phase c.args.at header) (λ h rest. message_of c.args.at h rest) e)
