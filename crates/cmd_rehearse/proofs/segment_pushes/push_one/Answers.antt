use Rattle.std.proofs.Common.{◌∙◌, ap, arith, refl, sym, subst}
use Rattle.base_model.specs.Steps.{ArchivePush}
use Rattle.archive_store.specs.Still.{rests_none}
use Rattle.cmd_types.specs.declared.stages.plan.SyncScope.TheVariants.{Whole}
use Rattle.cmd_types.proofs.Doing.{rests_part}
use Rattle.cmd_types.proofs.Besides.{archive_beside}
use Rattle.cmd_rehearse.specs.Commands.{segment_named}
use Rattle.cmd_rehearse.proofs.Pushes.{pushed_part, pushed_whole, pushed_current, segment_fits}
use Rattle.base_devices.specs.Cause.{Rises}
use Rattle.cmd_types.specs.declared.stages.object.Object.TheVariants.{Repo}
use Rattle.cmd_types.specs.Halts.{HaltCause, Only}
use Rattle.cmd_rehearse.specs.Causes.{StepCause}
use Rattle.cmd_rehearse.specs.Faults.{of_push}
use Rattle.cmd_rehearse.proofs.Causing.{push_fails}
use Rattle.cmd_rehearse.proofs.segment_pushes.push_one.Goals as goal

pub returns-in-Ok-clause-part : goal.returns-in-Ok-clause-part
returns-in-Ok-clause-part g c = pushed_part c.args.stanza.now c.args.id.now c.segment_name-name.result c.deref.result.now (segment_named c.args.number) c.segment_name-name.ensures (c.deref.ensures.value ∙ c.in_ok-bytes.ensures)
    (g.D.Disk.state c.args.repo.now).view (g.D.Disk.state c.push.new.d).view c.push.ensures.leaves

pub returns-in-Ok-clause-whole : goal.returns-in-Ok-clause-whole
returns-in-Ok-clause-whole g c = pushed_whole c.args.stanza.now c.args.id.now c.segment_name-name.result c.deref.result.now (segment_named c.args.number) c.segment_name-name.ensures (c.deref.ensures.value ∙ c.in_ok-bytes.ensures)
    (g.D.Disk.state c.args.repo.now).view (g.D.Disk.state c.push.new.d).view c.push.ensures.leaves c.in-Ok.ensures.file

pub returns-in-Ok-clause-current : goal.returns-in-Ok-clause-current
returns-in-Ok-clause-current g c = pushed_current c.args.stanza.now c.args.id.now c.segment_name-name.result c.deref.result.now (segment_named c.args.number) c.segment_name-name.ensures (c.deref.ensures.value ∙ c.in_ok-bytes.ensures)
    (g.D.Disk.state c.args.repo.now).view (g.D.Disk.state c.push.new.d).view c.push.ensures.leaves c.requires.fits (segment_fits c.args.number (omega arith))

pub returns-clause-part : goal.returns-clause-part
returns-clause-part g c = pushed_part c.args.stanza.now c.args.id.now c.segment_name-name.result c.deref.result.now (segment_named c.args.number) c.segment_name-name.ensures (c.deref.ensures.value ∙ c.in_ok-bytes.ensures)
    (g.D.Disk.state c.args.repo.now).view (g.D.Disk.state c.push.new.d).view c.push.ensures.leaves

pub returns-clause-current : goal.returns-clause-current
returns-clause-current g c = pushed_current c.args.stanza.now c.args.id.now c.segment_name-name.result c.deref.result.now (segment_named c.args.number) c.segment_name-name.ensures (c.deref.ensures.value ∙ c.in_ok-bytes.ensures)
    (g.D.Disk.state c.args.repo.now).view (g.D.Disk.state c.push.new.d).view c.push.ensures.leaves c.requires.fits (segment_fits c.args.number (omega arith))

pub returns-in-Ok-clause-beside : goal.returns-in-Ok-clause-beside
returns-in-Ok-clause-beside g c = archive_beside c.args.stanza.now _ _ c.push.ensures.leaves.only

pub returns-clause-beside : goal.returns-clause-beside
returns-clause-beside g c = archive_beside c.args.stanza.now _ _ c.push.ensures.leaves.only

pub returns-in_err-bytes-clause-part : goal.returns-in_err-bytes-clause-part
returns-in_err-bytes-clause-part g c = λ k is current. rests_part Whole c.args.stanza.now (ArchivePush (segment_named c.args.number)) (g.D.Disk.state c.args.repo.now).view (g.D.Disk.state c.args.repo.now).view (rests_none (g.D.Disk.state c.args.repo.now).view) refl

pub returns-in-Ok-clause-known : goal.returns-in-Ok-clause-known
returns-in-Ok-clause-known g c = c.push.ensures.leaves.part.now.known

pub returns-clause-known : goal.returns-clause-known
returns-clause-known g c = c.push.ensures.leaves.part.now.known

pub returns-clause-cause : goal.returns-clause-cause
returns-clause-cause g c =
    let stanza = c.args.stanza.now in
    let now = (g.D.Disk.state c.args.repo.now).view.now in
    let rose = Rises (g.D.Disk.state c.args.repo.now).faults (g.D.Disk.state c.push.new.d).faults in
    subst (HaltCause (StepCause stanza now) (Only Repo rose)) (sym (c.of_push.ensures ∙ ap of_push c.of_store.ensures))
    (push_fails stanza c.args.id.now c.args.number c.segment_name-name.result c.deref.result.now c.segment_name-name.ensures (c.deref.ensures.value ∙ c.in_ok-bytes.ensures) now rose c.in-Err.fault c.in-Err.ensures.cause)
