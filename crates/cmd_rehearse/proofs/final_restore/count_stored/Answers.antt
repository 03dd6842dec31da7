use Rattle.std.proofs.Common.{◌≡◌, List, arith, length, sym, subst}
use Rattle.base_devices.specs.Cause.{Rises}
use Rattle.archive_lookup.specs.declared.stored.files.Stored.{Stored}
use Rattle.archive_lookup.specs.Stored.{AreStored}
use Rattle.cmd_types.specs.declared.stages.object.Object.TheVariants.{Repo}
use Rattle.cmd_types.specs.Halts.{HaltCause, Only}
use Rattle.cmd_backup_common.proofs.Causes.{if_as}
use Rattle.cmd_rehearse.specs.Causes.{StepCause}
use Rattle.cmd_rehearse.proofs.Causing.{all_fails}
use Rattle.cmd_rehearse.proofs.final_restore.count_stored.Goals as goal

pub returns-in-Ok-clause-stored : goal.returns-in-Ok-clause-stored
returns-in-Ok-clause-stored g c =
    let stanza = c.args.stanza.now in
    let files = c.in-Ok.files.items in
    let size = c.in-Ok.files.ok in
    if_as (λ f. AreStored stanza f files) (λ f. (xs : List Stored) × AreStored stanza f xs × (c.len.result ≡ length xs)) (g.D.Disk.state c.args.repo.now).view.now c.in-Ok.ensures.all
    (λ f are. (files, are, omega (arith, c.len.ensures, size)))

pub returns-in-Err-clause-cause : goal.returns-in-Err-clause-cause
returns-in-Err-clause-cause g c =
    let stanza = c.args.stanza.now in
    let now = (g.D.Disk.state c.args.repo.now).view.now in
    let rose = Rises (g.D.Disk.state c.args.repo.now).faults (g.D.Disk.state c.all.new.d).faults in
    subst (HaltCause (StepCause stanza now) (Only Repo rose)) (sym c.of_all.ensures) (all_fails stanza now rose c.in-Err.fault c.in-Err.ensures.cause)
