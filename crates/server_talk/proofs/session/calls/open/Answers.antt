use Rattle.std.proofs.Common.{◌≡◌, Option, List, ℕ, Ok, option_map, IfSome, subst, ◌∙◌}
use Rattle.server_talk.specs.declared.session.phase.Phase.TheVariants.{Granted}
use Rattle.server_talk.specs.Session.{start_at, taken_of, part_of}
use Rattle.server_talk.specs.Talk.{Taken, talk_at}
use Rattle.server_talk.specs.Views.{session_view, talk_view}
use Rattle.server_talk.specs.Reads.{Fails}
use Rattle.server_talk.proofs.Reading.{reads_part, fails_first, fails_parted}
use Rattle.server_talk.proofs.session.calls.open.Goals as goal

pub returns-in-Ok-clause-read : goal.returns-in-Ok-clause-read
unfolding start_at
returns-in-Ok-clause-read g c =
    let last = (g.V.ServerConnection.state c.receive_out.new.connection).pending in
    let received_reply = (g.V.ServerConnection.state c.send.new.connection).pending in
    subst (λ (o : Option (List ℕ)). option_map start_at o ≡ option_map (λ rest. Ok (session_view c.in-Ok.talk.session, rest)) last) (c.send.ensures.pending ∙ c.open_connection.ensures.pending)
    (reads_part taken_of (talk_view c.in-Ok.talk) received_reply last (talk_at Granted 0 (record { bytes = 0; messages = 0 }))
    (subst (λ (t : Taken). option_map (talk_at Granted 0 t) received_reply ≡ option_map (λ rest. Ok (talk_view c.in-Ok.talk, rest)) last) c.new.ensures c.in-Ok.ensures.read))

pub returns-clause-read : goal.returns-clause-read
unfolding start_at
returns-clause-read g c =
    let received_reply = (g.V.ServerConnection.state c.send.new.connection).pending in
    fails_parted (option_map start_at (g.V.ServerConnection.state c.args.connection.now).pending) c.part.result c.in-Err.fault c.part.ensures.fault
    (subst (λ (o : Option (List ℕ)). IfSome (option_map start_at o) (Fails c.in-Err.fault)) (c.send.ensures.pending ∙ c.open_connection.ensures.pending)
    (fails_first c.in-Err.fault received_reply (talk_at Granted 0 (record { bytes = 0; messages = 0 })) (part_of taken_of)
    (subst (λ (t : Taken). IfSome (option_map (talk_at Granted 0 t) received_reply) (Fails c.in-Err.fault)) c.new.ensures c.in-Err.ensures.read)))
