use Rattle.std.proofs.Common.{arith}
use Rattle.archive_store.proofs.Piecewise.{prefix_read, prefix_long}
use Rattle.archive_store.proofs.pushing.prefix_of.Goals as goal

pub returns-clause-begins : goal.returns-clause-begins
returns-clause-begins c = prefix_read c.args.bytes.now c.min-count.result (omega (arith, c.min-count.ensures))

pub returns-clause-long : goal.returns-clause-long
returns-clause-long c = prefix_long c.args.bytes.now c.min-count.result c.min-count.ensures
