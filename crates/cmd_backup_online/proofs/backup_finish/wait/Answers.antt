use Rattle.cmd_backup_online.proofs.Finishings.{wait_known}
use Rattle.cmd_backup_online.proofs.backup_finish.wait.Goals as goal

pub returns-in-Err-clause-cause : goal.returns-in-Err-clause-cause
returns-in-Err-clause-cause g c = wait_known c.args.stanza.now c.args.log.now.id c.args.log.now.wal c.args.log.now.most _ _ _ _ _ c.in-Err.fault c.of_wait.result c.of_wait.ensures c.in-Err.ensures.cause
