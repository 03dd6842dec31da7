use Rattle.std.proofs.Common.{◌≡◌, ◌≤◌, ◌-◌, ◌++◌, option_map, length}
use Rattle.server_talk.proofs.session.take.gather.Given as goal

abbrev pub invariant-loop-piece : goal.invariant-loop-piece
invariant-loop-piece g l = record {
  stream : option_map (λ r. l.bytes.items ++ r) (g.V.ServerConnection.state l.connection).pending ≡ (g.V.ServerConnection.state l.fn.connection).pending;
  room : length l.bytes.items ≤ l.count;
  sent : (g.V.ServerConnection.state l.connection).sent ≡ (g.V.ServerConnection.state l.fn.connection).sent;
  place : (g.V.ServerConnection.state l.connection).place ≡ (g.V.ServerConnection.state l.fn.connection).place;
  later : (g.V.ServerConnection.state l.fn.connection).faults ≤ (g.V.ServerConnection.state l.connection).faults;
}

abbrev pub decreases-loop-piece : goal.decreases-loop-piece
decreases-loop-piece g l = l.count - length l.bytes.items
