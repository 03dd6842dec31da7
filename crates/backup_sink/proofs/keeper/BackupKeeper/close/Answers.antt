use Rattle.std.proofs.lemmas.Result.{on_ok_weaker}
use Rattle.backup_sink.specs.Keeping.{after_end}
use Rattle.backup_sink.proofs.JobItems.{becomes_by}
use Rattle.backup_sink.proofs.keeper.BackupKeeper.close.Goals as goal

pub returns-clause-states : goal.returns-clause-states
returns-clause-states c = on_ok_weaker c.close.result (λ e. becomes_by (after_end c.args.how) c.args.self.now.states.items c.args.job c.index_mut.result.now c.close.new.self c.index_mut.ensures.value e) c.close.ensures.ok
