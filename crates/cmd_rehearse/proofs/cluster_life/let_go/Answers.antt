use Rattle.std.proofs.Common.{ap, arith, subst, sym, length}
use Rattle.base_devices.specs.Cause.{Rises}
use Rattle.cmd_types.specs.declared.stages.object.Object.TheVariants.{Repo}
use Rattle.cmd_types.specs.Halts.{HaltCause, Only}
use Rattle.cmd_rehearse.specs.Causes.{StepCause}
use Rattle.cmd_rehearse.proofs.Causing.{expire_fails}
use Rattle.cmd_rehearse.proofs.cluster_life.let_go.Goals as goal

pub returns-in-Ok-clause-carries : goal.returns-in-Ok-clause-carries
returns-in-Ok-clause-carries g c = record { part = c.expire.ensures.part; whole = c.in-Ok.ensures.whole }

pub returns-in-Ok-clause-expired : goal.returns-in-Ok-clause-expired
returns-in-Ok-clause-expired g c = λ s some represents.
    let same = ap length (c.in-Ok.ensures.labels s some represents) in
    let size = c.in-Ok.gone.labels.ok in
    omega (arith, c.len.ensures, size, same)

pub returns-in-Err-clause-carries : goal.returns-in-Err-clause-carries
returns-in-Err-clause-carries g c = record { part = c.expire.ensures.part; whole = tt }

pub returns-in-Err-clause-cause : goal.returns-in-Err-clause-cause
returns-in-Err-clause-cause g c =
    let stanza = c.args.stanza.now in
    let now = (g.D.Disk.state c.args.repo.now).view.now in
    let rose = Rises (g.D.Disk.state c.args.repo.now).faults (g.D.Disk.state c.expire.new.d).faults in
    subst (HaltCause (StepCause stanza now) (Only Repo rose)) (sym c.of_expire.ensures) (expire_fails stanza now rose c.in-Err.fault c.in-Err.ensures.cause)
