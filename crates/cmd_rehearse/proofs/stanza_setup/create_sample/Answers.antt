use Rattle.std.proofs.Common.{None, subst, sym}
use Rattle.base_devices.specs.Cause.{Rises}
use Rattle.cmd_types.specs.declared.stages.object.Object.TheVariants.{Repo}
use Rattle.cmd_types.specs.Halts.{HaltCause, Only}
use Rattle.cmd_types.proofs.Besides.{pairs_beside}
use Rattle.cmd_rehearse.specs.Causes.{StepCause}
use Rattle.cmd_rehearse.proofs.Causing.{create_fails}
use Rattle.cmd_rehearse.proofs.stanza_setup.create_sample.Goals as goal

pub returns-in-Ok-clause-beside : goal.returns-in-Ok-clause-beside
returns-in-Ok-clause-beside g c = pairs_beside c.args.stanza.now _ _ c.create_stanza.ensures.only

pub returns-clause-beside : goal.returns-clause-beside
returns-clause-beside g c = pairs_beside c.args.stanza.now _ _ c.create_stanza.ensures.only

pub returns-clause-cause : goal.returns-clause-cause
returns-clause-cause g c =
    let stanza = c.args.stanza.now in
    let now = (g.D.Disk.state c.args.repo.now).view.now in
    let rose = Rises (g.D.Disk.state c.args.repo.now).faults (g.D.Disk.state c.create_stanza.new.repo).faults in
    let asked = Rises c.new-server.result.faults c.create_stanza.new.connection.faults in
    subst (HaltCause (StepCause stanza now) (Only Repo rose)) (sym c.of_create.ensures)
    (create_fails stanza now None rose asked c.in-Err.halt c.in-Err.ensures.cause)
