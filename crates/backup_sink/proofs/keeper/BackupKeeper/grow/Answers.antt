use Rattle.backup_sink.specs.Keeping.{grown}
use Rattle.backup_sink.proofs.JobItems.{becomes_by}
use Rattle.backup_sink.proofs.keeper.BackupKeeper.grow.Goals as goal

pub returns-clause-states : goal.returns-clause-states
returns-clause-states c = becomes_by (grown c.args.count) c.args.self.now.states.items c.args.job c.index_mut.result.now c.grow.new.self c.index_mut.ensures.value c.grow.ensures
