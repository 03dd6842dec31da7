use Rattle.std.proofs.Common.{◌≡◌, ◌≤◌, ◌+◌, ◌-◌, option_map}
use Rattle.server_talk.specs.Talk.{run}
use Rattle.server_talk.specs.Views.{talk_view}
use Rattle.server_talk.proofs.session.talk.run.Given as goal

abbrev pub invariant-loop-i : goal.invariant-loop-i
invariant-loop-i g l = record {
  stream : option_map (run (l.limit - l.i) l.columns (talk_view l.talk)) (g.V.ServerConnection.state l.connection).pending ≡ option_map (run l.limit l.columns (talk_view l.fn.start)) (g.V.ServerConnection.state l.fn.connection).pending;
  count : l.talk.session.messages + (l.limit - l.i) ≡ 1000000;
  sent : (g.V.ServerConnection.state l.connection).sent ≡ (g.V.ServerConnection.state l.fn.connection).sent;
  place : (g.V.ServerConnection.state l.connection).place ≡ (g.V.ServerConnection.state l.fn.connection).place;
  later : (g.V.ServerConnection.state l.fn.connection).faults ≤ (g.V.ServerConnection.state l.connection).faults;
}
