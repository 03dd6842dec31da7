use Rattle.std.proofs.Common.{◌≡◌, ◌-◌, ◌+◌, sym, ◌∙◌, subst, option_map, arith, IfSome}
use Rattle.server_talk.specs.declared.session.fault.ServerFault.TheVariants as faults
use Rattle.server_talk.specs.Talk.{run}
use Rattle.server_talk.specs.Views.{talk_view, message_view}
use Rattle.server_talk.specs.Reads.{Fails}
use Rattle.server_talk.proofs.Runs.{over_all, end_all, left, on_message_fault, on_receive_fault, on_next}
use Rattle.server_talk.proofs.session.talk.run.Goals as goal

pub returns-then-is_over-clause-read : goal.returns-then-is_over-clause-read
returns-then-is_over-clause-read g c =
    sym c.loop-i.invariant.stream ∙ over_all (c.args.limit - c.loop-i.i) c.args.columns (talk_view c.loop-i.talk) (g.V.ServerConnection.state c.loop-i.connection).pending (sym c.is_over.ensures ∙ c.if-is_over.true)

pub returns-in-Err-clause-read : goal.returns-in-Err-clause-read
returns-in-Err-clause-read g c =
    on_message_fault (c.args.limit - (c.loop-i.i + 1)) (c.args.limit - c.loop-i.i) c.args.columns (talk_view c.loop-i.talk) (g.V.ServerConnection.state c.loop-i.connection).pending (g.V.ServerConnection.state c.args.connection.now).pending (talk_view c.args.start) c.args.limit
    (left c.args.limit c.loop-i.i (omega arith)) c.loop-i.invariant.stream (sym c.is_over.ensures ∙ c.if-is_over.false) c.in-Err.fault c.in-Err.ensures.read

pub returns-in-Err-receive_reply-clause-read : goal.returns-in-Err-receive_reply-clause-read
returns-in-Err-receive_reply-clause-read g c =
    on_receive_fault (c.args.limit - (c.loop-i.i + 1)) (c.args.limit - c.loop-i.i) c.args.columns (talk_view c.loop-i.talk) (g.V.ServerConnection.state c.loop-i.connection).pending (g.V.ServerConnection.state c.args.connection.now).pending (talk_view c.args.start) c.args.limit
    (left c.args.limit c.loop-i.i (omega arith)) c.loop-i.invariant.stream (sym c.is_over.ensures ∙ c.if-is_over.false) c.in-Err-receive_reply.fault (message_view c.in-Ok.message) (g.V.ServerConnection.state c.message_at.new.connection).pending c.in-Ok.ensures.read c.in-Err-receive_reply.ensures.value

pub loop-i-preserved : goal.loop-i-preserved
loop-i-preserved g c = record {
  stream = on_next (c.args.limit - (c.loop-i.i + 1)) (c.args.limit - c.loop-i.i) c.args.columns (talk_view c.loop-i.talk) (g.V.ServerConnection.state c.loop-i.connection).pending (g.V.ServerConnection.state c.args.connection.now).pending (talk_view c.args.start) c.args.limit
      (left c.args.limit c.loop-i.i (omega arith)) c.loop-i.invariant.stream (sym c.is_over.ensures ∙ c.if-is_over.false) (talk_view c.in-Ok-receive_reply.next) (message_view c.in-Ok.message) (g.V.ServerConnection.state c.message_at.new.connection).pending c.in-Ok.ensures.read c.in-Ok-receive_reply.ensures.value;
  count = let a = c.in-Ok-receive_reply.ensures.count in let b = c.loop-i.invariant.count in omega arith;
  place = c.in-Ok.ensures.place ∙ c.loop-i.invariant.place;
  later = let a = c.in-Ok.ensures.cause.later in let b = c.loop-i.invariant.later in omega arith;
  sent = c.in-Ok.ensures.sent ∙ c.loop-i.invariant.sent;
}

pub returns-then-is_over-2-clause-read : goal.returns-then-is_over-2-clause-read
returns-then-is_over-2-clause-read g c =
    sym c.loop-i.invariant.stream ∙ over_all (c.args.limit - c.loop-i.i) c.args.columns (talk_view c.loop-i.talk) (g.V.ServerConnection.state c.loop-i.connection).pending (sym c.is_over-2.ensures ∙ c.if-is_over-2.true)

pub returns-else-is_over-2-clause-read : goal.returns-else-is_over-2-clause-read
returns-else-is_over-2-clause-read g c =
    let e : c.args.limit - c.loop-i.i ≡ 0 = omega arith in
    let stream = subst (λ n. option_map (run n c.args.columns (talk_view c.loop-i.talk)) (g.V.ServerConnection.state c.loop-i.connection).pending ≡ option_map (run c.args.limit c.args.columns (talk_view c.args.start)) (g.V.ServerConnection.state c.args.connection.now).pending) e c.loop-i.invariant.stream in
    subst (λ o. IfSome o (Fails (faults.TooMany 1000000))) stream (end_all c.args.columns (talk_view c.loop-i.talk) (g.V.ServerConnection.state c.loop-i.connection).pending (sym c.is_over-2.ensures ∙ c.if-is_over-2.false))
