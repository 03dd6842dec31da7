use Rattle.cmd_backup_online.proofs.Finishings.{close_known}
use Rattle.cmd_backup_online.proofs.backup_finish.end_backup.Goals as goal

pub returns-in-Err-clause-cause : goal.returns-in-Err-clause-cause
returns-in-Err-clause-cause g c = close_known c.args.stanza.now c.args.label.now 0 _ _ _ _ c.in-Err.fault c.of_make.result c.of_backup.result c.of_backup.ensures c.of_make.ensures c.in-Err.ensures.fault
