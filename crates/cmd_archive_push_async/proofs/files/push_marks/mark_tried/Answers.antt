use Rattle.base_devices.specs.Cause.{Rises}
use Rattle.cmd_types.specs.declared.stages.object.Object.TheVariants.{Spool}
use Rattle.cmd_types.specs.Halts.{HaltCause, Never, Only}
use Rattle.cmd_archive_push_async.proofs.Put.{spool_cause, halt_as}
use Rattle.cmd_archive_push_async.proofs.files.push_marks.mark_tried.Goals as goal

pub returns-in-Err-clause-cause : goal.returns-in-Err-clause-cause
returns-in-Err-clause-cause g c = halt_as c.of_spool.result _ c.of_spool.ensures (HaltCause Never (Only Spool (Rises (g.S.Disk.state c.args.spool.now).faults (g.S.Disk.state c.put_mark.new.spool).faults)))
    (spool_cause (Rises (g.S.Disk.state c.args.spool.now).faults (g.S.Disk.state c.put_mark.new.spool).faults) c.put_mark.result c.in-Err.fault c.in-Err.is c.put_mark.ensures.cause)
