use Rattle.std.proofs.Common.{◌≡◌, ◌≤◌, ◌+◌, ◌-◌, length}
use Rattle.server_talk.specs.Cells.{cells_of, cells}
use Rattle.server_talk.specs.Views.{left_view}
use Rattle.server_talk.proofs.session.cells.cells.Given as goal

abbrev pub invariant-loop-i : goal.invariant-loop-i
invariant-loop-i l = record {
  read : cells_of (l.columns - l.i) (left_view l.left) ≡ cells l.columns l.fn.at l.fn.body;
  place : l.left.at + length l.left.rest.now ≤ l.fn.at + length l.fn.body;
}
