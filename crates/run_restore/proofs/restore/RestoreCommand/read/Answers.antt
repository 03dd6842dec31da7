use Rattle.cmd_trait.specs.Code.{place_of}
use Rattle.cmd_restore.specs.Fetching.{recovery_type}
use Rattle.run_restore.specs.Code.{set_of}
use Rattle.run_restore.proofs.Orders.{order_is, chooses}
use Rattle.run_restore.proofs.restore.RestoreCommand.read.Goals as goal

pub returns-clause-order : goal.returns-clause-order
returns-clause-order c = let e = c.restore_order.ensures in order_is c.args.self.now (place_of c.args.places.now) c.restore_order.result e.folders e.options e.recovery e.choice

pub returns-clause-fit : goal.returns-clause-fit
returns-clause-fit c = chooses (set_of c.args.self.now) (recovery_type c.args.self.now.recovery) c.restore_order.result c.restore_order.ensures.choice
