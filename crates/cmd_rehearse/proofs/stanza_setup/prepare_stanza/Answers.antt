use Rattle.std.proofs.Math.Nat.{le_refl}
use Rattle.std.proofs.Common.{◌*◌, arith, sym, subst, Result, Ok, Err, Option}
use Rattle.std.specs.Prelude.{IfSome}
use Rattle.base_devices.specs.Content.{Content}
use Rattle.base_model.specs.Values.{archive_info_of}
use Rattle.base_crash_lists.proofs.Stays.{rests_beside, beside_on}
use Rattle.cmd_types.specs.Current.{HasCurrent}
use Rattle.cmd_types.specs.declared.stages.halt.Halt.{Halt}
use Rattle.cmd_rehearse.specs.declared.fault.StepFault.{StepFault}
use Rattle.cmd_rehearse.specs.Advancing.{Advances}
use Rattle.cmd_rehearse.specs.Commands.{created, prepared, pushed}
use Rattle.cmd_rehearse.proofs.Advanced.{first_stops, goes_on, still_on}
use Rattle.cmd_rehearse.proofs.Pushes.{err_as, has_current}
use Rattle.base_devices.specs.Cause.{Rises}
use Rattle.cmd_types.specs.declared.stages.object.Object.TheVariants.{Repo}
use Rattle.cmd_types.specs.Halts.{HaltCause, Only}
use Rattle.cmd_backup_common.proofs.Beginnings.{halt_as, ends_with, err_as as under_err}
use Rattle.cmd_rehearse.specs.Causes.{LostCause, StepCause, PushesCause, PrefixCause}
use Rattle.cmd_rehearse.proofs.Causing.{lost_step}
use Rattle.cmd_rehearse.proofs.Failing.{only_in}
use Rattle.cmd_rehearse.proofs.Prefixes.{first_cause, none_pushed, pushes_cause}
use Rattle.cmd_rehearse.proofs.stanza_setup.prepare_stanza.Goals as goal

pub returns-in_err-create_sample-clause-advances : goal.returns-in_err-create_sample-clause-advances
returns-in_err-create_sample-clause-advances g c =
    let a = (g.D.Disk.state c.args.repo.now).view in
    let m = (g.D.Disk.state c.create_sample.new.repo).view in
    err_as (λ (r : Result _ _). Advances c.args.stanza.now (prepared c.args.number) r a m) c.from_residual.result _ c.from_residual.ensures.1
    (first_stops c.args.stanza.now created (pushed (2 * c.args.number)) a m c.in_err-create_sample.field-0.0 _ c.in_err-create_sample.ensures.advances)

pub returns-in_err-info-clause-advances : goal.returns-in_err-info-clause-advances
returns-in_err-info-clause-advances g c =
    let a = (g.D.Disk.state c.args.repo.now).view in
    let m = (g.D.Disk.state c.create_sample.new.repo).view in
    let d = (g.D.Disk.state c.read_archive.new.repo).view in
    let looks = c.read_archive.ensures.looks in
    err_as (λ (r : Result _ _). Advances c.args.stanza.now (prepared c.args.number) r a d) c.from_residual-in_err-info.result _ c.from_residual-in_err-info.ensures.1
    (first_stops c.args.stanza.now created (pushed (2 * c.args.number)) a d c.in_err-info.field-0.0 _
    (still_on {T = Unit {0}} {U = Unit {0}} c.args.stanza.now created c.in_ok-create_sample.field-0 (Err c.in_err-info.field-0.0) a m d c.in_ok-create_sample.ensures.advances looks.time looks.now))

pub returns-in_err-info-clause-beside : goal.returns-in_err-info-clause-beside
returns-in_err-info-clause-beside g c =
    let m = (g.D.Disk.state c.create_sample.new.repo).view in
    let d = (g.D.Disk.state c.read_archive.new.repo).view in
    beside_on c.args.stanza.now (g.D.Disk.state c.args.repo.now).view m d c.create_sample.ensures.beside
    (rests_beside c.args.stanza.now m d c.read_archive.ensures.looks.time c.read_archive.ensures.looks.now)

pub returns-clause-advances : goal.returns-clause-advances
returns-clause-advances g c =
    let a = (g.D.Disk.state c.args.repo.now).view in
    let m = (g.D.Disk.state c.create_sample.new.repo).view in
    let n = (g.D.Disk.state c.read_archive.new.repo).view in
    let d = (g.D.Disk.state c.push_segments.new.repo).view in
    let looks = c.read_archive.ensures.looks in
    let id = c.current_id-id.ensures.id in
    goes_on {T = Unit {0}} {E = Halt StepFault} c.args.stanza.now created (pushed (2 * c.args.number)) a n c.in_ok-create_sample.field-0 c.push_segments.result d
    (still_on {T = Unit {0}} {U = Unit {0}} c.args.stanza.now created c.in_ok-create_sample.field-0 (Ok c.in_ok-create_sample.field-0) a m n c.in_ok-create_sample.ensures.advances looks.time looks.now)
    (c.push_segments.ensures.advances id.0 id.2
    (subst (λ (o : Option Content). IfSome o (λ f. HasCurrent c.args.stanza.now f id.0)) (sym looks.now)
    (has_current c.args.stanza.now m.now (archive_info_of c.in_ok-info.info) id.0 c.in_ok-info.ensures.found.0 id.1)))

pub returns-clause-beside : goal.returns-clause-beside
returns-clause-beside g c =
    let a = (g.D.Disk.state c.args.repo.now).view in
    let m = (g.D.Disk.state c.create_sample.new.repo).view in
    let n = (g.D.Disk.state c.read_archive.new.repo).view in
    let d = (g.D.Disk.state c.push_segments.new.repo).view in
    beside_on c.args.stanza.now a n d
    (beside_on c.args.stanza.now a m n c.create_sample.ensures.beside
    (rests_beside c.args.stanza.now m n c.read_archive.ensures.looks.time c.read_archive.ensures.looks.now))
    c.push_segments.ensures.beside

pub returns-in_err-create_sample-clause-cause : goal.returns-in_err-create_sample-clause-cause
returns-in_err-create_sample-clause-cause g c =
    let stanza = c.args.stanza.now in
    let a = g.D.Disk.state c.args.repo.now in
    let m = g.D.Disk.state c.create_sample.new.repo in
    let F = Only Repo (Rises a.faults m.faults) in
    ends_with (HaltCause (PrefixCause stanza c.args.number a.view.now) F) c.from_residual.result c.in_err-create_sample.field-0.0 c.from_residual.ensures.1
    (halt_as (StepCause stanza a.view.now) (PrefixCause stanza c.args.number a.view.now) F F (first_cause stanza c.args.number a.view.now) (λ o h. h) c.in_err-create_sample.field-0.0 c.in_err-create_sample.ensures.cause)

pub returns-in_err-info-clause-cause : goal.returns-in_err-info-clause-cause
returns-in_err-info-clause-cause g c =
    let stanza = c.args.stanza.now in
    let n = c.args.number in
    let a = g.D.Disk.state c.args.repo.now in
    let m = g.D.Disk.state c.create_sample.new.repo in
    let d = g.D.Disk.state c.read_archive.new.repo in
    ends_with (HaltCause (PrefixCause stanza n a.view.now) (Only Repo (Rises a.faults d.faults))) c.from_residual-in_err-info.result c.in_err-info.field-0.0 c.from_residual-in_err-info.ensures.1
    (halt_as (LostCause stanza m.view.now) (PrefixCause stanza n a.view.now) (Only Repo (Rises m.faults d.faults)) (Only Repo (Rises a.faults d.faults))
    (λ e h. pushes_cause stanza n c.in_ok-create_sample.field-0 a.view m.view c.in_ok-create_sample.ensures.advances e (none_pushed stanza (2 * n) m.view.now e (lost_step stanza m.view.now e h)))
    (only_in a.faults m.faults d.faults d.faults c.create_sample.ensures.frame.later (le_refl d.faults))
    c.in_err-info.field-0.0 c.in_err-info.ensures.cause)

pub returns-clause-cause : goal.returns-clause-cause
returns-clause-cause g c =
    let stanza = c.args.stanza.now in
    let n = c.args.number in
    let a = g.D.Disk.state c.args.repo.now in
    let m = g.D.Disk.state c.create_sample.new.repo in
    let k = g.D.Disk.state c.read_archive.new.repo in
    let d = g.D.Disk.state c.push_segments.new.repo in
    let looks = c.read_archive.ensures.looks in
    let id = c.current_id-id.ensures.id in
    let does = still_on {T = Unit {0}} {E = Halt StepFault} {U = Unit {0}} {F = Halt StepFault} stanza created c.in_ok-create_sample.field-0 (Ok c.in_ok-create_sample.field-0) a.view m.view k.view c.in_ok-create_sample.ensures.advances looks.time looks.now in
    under_err (HaltCause (PushesCause stanza (2 * n) k.view.now) (Only Repo (Rises k.faults d.faults))) (HaltCause (PrefixCause stanza n a.view.now) (Only Repo (Rises a.faults d.faults))) c.push_segments.result
    (halt_as (PushesCause stanza (2 * n) k.view.now) (PrefixCause stanza n a.view.now) (Only Repo (Rises k.faults d.faults)) (Only Repo (Rises a.faults d.faults))
    (pushes_cause stanza n c.in_ok-create_sample.field-0 a.view k.view does)
    (only_in a.faults k.faults d.faults d.faults (omega (arith, c.create_sample.ensures.frame.later, looks.later)) (le_refl d.faults)))
    (c.push_segments.ensures.cause id.0 id.2
    (subst (λ (o : Option Content). IfSome o (λ f. HasCurrent stanza f id.0)) (sym looks.now)
    (has_current stanza m.view.now (archive_info_of c.in_ok-info.info) id.0 c.in_ok-info.ensures.found.0 id.1)))
