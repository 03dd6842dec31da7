use Rattle.base_devices.specs.Cause.{Rises}
use Rattle.base_disk.proofs.Changes.{only_none, only_on}
use Rattle.cmd_types.specs.Halts.{HaltCause, Never, Only}
use Rattle.cmd_types.specs.declared.stages.object.Object.TheVariants.{Spool}
use Rattle.cmd_archive_push_async.proofs.Following.{ends_by_spool}
use Rattle.cmd_archive_push_async.proofs.Put.{spool_cause, halt_as}
use Rattle.cmd_archive_push_async.proofs.Wholes.{named_drains, unclear_drains, cleared_ends}
use Rattle.cmd_archive_push_async.proofs.Paired.{pair_same}
use Rattle.cmd_archive_push_async.proofs.Putting.{some_none}
use Rattle.cmd_archive_push_async.proofs.files.file_loop.drain_named.Goals as goal

pub returns-in-Ok-clause-drains : goal.returns-in-Ok-clause-drains
returns-in-Ok-clause-drains g c = λ f is.
    named_drains c.args.to.now.stanza.now c.args.to.now.id c.args.to.now.system f c.args.names.now _ _ _ _ _ _ (g.met.S.Disk.now_may_be_left c.args.spool.now) (g.met.S.Disk.now_may_be_left c.drain_files.new.spool)
    c.clear_marks.ensures.marks c.clear_marks.ensures.clears (λ some. c.in-Ok.ensures.cleared) (c.drain_files.ensures.drains f is)

pub returns-in-Ok-clause-spool_only : goal.returns-in-Ok-clause-spool_only
returns-in-Ok-clause-spool_only g c = only_on _ _ _ _ c.clear_marks.ensures.only c.drain_files.ensures.spool_only

pub returns-in-Ok-clause-cause : goal.returns-in-Ok-clause-cause
returns-in-Ok-clause-cause g c = cleared_ends _ _ _ _ _ _ c.clear_marks.ensures.frame.later c.drain_files.result c.drain_files.ensures.cause

pub returns-in-Err-clause-drains : goal.returns-in-Err-clause-drains
returns-in-Err-clause-drains g c = λ f is.
    unclear_drains c.args.to.now.stanza.now c.args.to.now.id c.args.to.now.system f c.args.names.now _ _ _ (g.met.S.Disk.now_may_be_left c.args.spool.now) (g.met.S.Disk.now_may_be_left c.clear_marks.new.spool)
    c.clear_marks.ensures.marks c.clear_marks.ensures.clears

pub returns-in-Err-clause-repo_only : goal.returns-in-Err-clause-repo_only
returns-in-Err-clause-repo_only g c = only_none _ _

pub returns-in-Err-clause-cause : goal.returns-in-Err-clause-cause
returns-in-Err-clause-cause g c = ends_by_spool _ _ _ _ c.of_spool.result
    (halt_as c.of_spool.result _ c.of_spool.ensures (HaltCause Never (Only Spool (Rises (g.S.Disk.state c.args.spool.now).faults (g.S.Disk.state c.clear_marks.new.spool).faults)))
    (spool_cause (Rises (g.S.Disk.state c.args.spool.now).faults (g.S.Disk.state c.clear_marks.new.spool).faults) c.clear_marks.result c.in-Err.fault c.in-Err.is c.clear_marks.ensures.cause))

pub returns-in-Err-clause-pair : goal.returns-in-Err-clause-pair
returns-in-Err-clause-pair g c = pair_same c.args.to.now.stanza.now _

pub returns-in-Err-clause-puts_only : goal.returns-in-Err-clause-puts_only
returns-in-Err-clause-puts_only g c = some_none c.args.to.now.stanza.now c.args.to.now.id (g.D.Disk.state c.args.repo.now).view
