use Rattle.std.proofs.Common.{◌-◌, ◌+◌, arith}
use Rattle.server_talk.specs.Cells.{cells}
use Rattle.server_talk.specs.Views.{left_view}
use Rattle.server_talk.proofs.Runs.{left}
use Rattle.server_talk.proofs.Columns.{cell_read, cell_fails}
use Rattle.server_talk.proofs.session.cells.cells.Goals as goal

pub returns-in-Err-clause-value : goal.returns-in-Err-clause-value
returns-in-Err-clause-value c = cell_fails (c.args.columns - (c.loop-i.i + 1)) (c.args.columns - c.loop-i.i) (left_view c.loop-i.left) (cells c.args.columns c.args.at c.args.body.now) (left c.args.columns c.loop-i.i (omega arith)) c.loop-i.invariant.read c.in-Err.fault c.in-Err.ensures.value

pub loop-i-preserved : goal.loop-i-preserved
loop-i-preserved c = record {
  read = cell_read (c.args.columns - (c.loop-i.i + 1)) (c.args.columns - c.loop-i.i) (left_view c.loop-i.left) (cells c.args.columns c.args.at c.args.body.now) (left c.args.columns c.loop-i.i (omega arith)) c.loop-i.invariant.read (left_view c.in-Ok.next) c.in-Ok.ensures.value;
  place = let a = c.in-Ok.ensures.place in let b = c.loop-i.invariant.place in omega arith;
}
