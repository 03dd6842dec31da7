use Rattle.base_model.specs.Values.{archive_info_of, backup_info_of}
use Rattle.cmd_backup_common.proofs.Beginnings.{unfit_cause}
use Rattle.cmd_backup_common.proofs.parts.room_check.fit.Goals as goal

pub returns-in-Err-clause-cause : goal.returns-in-Err-clause-cause
returns-in-Err-clause-cause c = unfit_cause c.args.known.now (archive_info_of c.args.archive.now) (backup_info_of c.args.backup)
    c.in-Err.fault c.of_stanza.result c.of_stanza.ensures c.in-Err.ensures.unfit
