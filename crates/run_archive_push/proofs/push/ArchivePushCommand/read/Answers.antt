use Rattle.cmd_trait.specs.Code.{place_of}
use Rattle.run_archive_push.proofs.PartEffects.{fits}
use Rattle.run_archive_push.proofs.push.ArchivePushCommand.read.Goals as goal

pub returns-clause-fit : goal.returns-clause-fit
returns-clause-fit c = fits c.args.self.now.path.now (place_of c.args.places.now) c.push_order.result c.push_order.ensures.order
