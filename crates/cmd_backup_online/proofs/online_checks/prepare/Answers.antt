use Rattle.std.proofs.Common.{map, take, ◌∙◌, ap, subst, Option}
use Rattle.base_devices.specs.Cause.{Rises}
use Rattle.base_devices.specs.Content.{Content}
use Rattle.base_model.specs.Values.{archive_info_of, backup_info_of}
use Rattle.cmd_types.specs.Halts.{HaltCause}
use Rattle.cmd_types.proofs.Counts.{rises_from}
use Rattle.cmd_backup_common.specs.Seconds.{StatesSecond, SecondCause as NoSecond}
use Rattle.cmd_backup_common.proofs.Beginnings.{ends_with}
use Rattle.cmd_backup_common.proofs.Makings.{Either}
use Rattle.cmd_backup_offline.specs.Faults.{of_backup}
use Rattle.cmd_backup_online.specs.Preparing.{PrepareCause}
use Rattle.cmd_backup_online.proofs.Preparings.{base_stops, second_stops}
use Rattle.cmd_backup_online.proofs.online_checks.prepare.Goals as goal

pub returns-in_err-base-clause-cause : goal.returns-in_err-base-clause-cause
returns-in_err-base-clause-cause g c =
    let stanza = c.args.stanza.name.now in
    let kind = c.args.order.now.kind in
    let known = c.args.stanza.control.now in
    let a = archive_info_of c.args.stanza.archive.now in
    let b = backup_info_of c.args.stanza.backup in
    let now = (g.D.Disk.state c.args.repo.now).view.now in
    let used = take c.args.order.now.take.workers (map g.L.Link.link_state c.args.pool.now.links.items) in
    let least = (g.C.Clock.state c.args.clock.now).least in
    let repo = Rises (g.D.Disk.state c.args.repo.now).faults (g.D.Disk.state c.load_base.new.repo).faults in
    let clock = Rises (g.C.Clock.state c.args.clock.now).faults (g.C.Clock.state c.args.clock.now).faults in
    ends_with (HaltCause (PrepareCause stanza kind known a b now least used) (Either repo clock)) c.from_residual.result c.in_err-base.field-0.0 c.from_residual.ensures.1
    (base_stops stanza kind known a b now used (backup_info_of c.in-Ok.list) c.in-Ok.ensures.settled least repo clock c.in_err-base.field-0.0 c.in_err-base.ensures.cause)

pub returns-in-Err-next_second-clause-cause : goal.returns-in-Err-next_second-clause-cause
returns-in-Err-next_second-clause-cause g c =
    let used = take c.args.order.now.take.workers (map g.L.Link.link_state c.args.pool.now.links.items) in
    let x = (g.D.Disk.state c.args.repo.now) in
    let y = (g.D.Disk.state c.load_base.new.repo) in
    let z = (g.D.Disk.state c.next_second.new.d) in
    second_stops c.args.stanza.name.now c.args.order.now.kind c.args.stanza.control.now (archive_info_of c.args.stanza.archive.now) (backup_info_of c.args.stanza.backup) x.view.now used (backup_info_of c.in-Ok.list) c.in-Ok.ensures.settled
    y.faults z.faults (g.C.Clock.state c.args.clock.now) (g.C.Clock.state c.next_second.new.clock) (Rises x.faults z.faults) (rises_from x.faults y.faults z.faults c.load_base.ensures.looks.later)
    c.in-Err-next_second.fault (subst (λ (now : Option Content). NoSecond (StatesSecond c.args.stanza.name.now (backup_info_of c.in-Ok.list) now) c.in-Err-next_second.fault y.faults z.faults (g.C.Clock.state c.args.clock.now) (g.C.Clock.state c.next_second.new.clock)) c.load_base.ensures.looks.now c.in-Err-next_second.ensures.cause) c.of_backup-in-Err-next_second.result (c.of_backup-in-Err-next_second.ensures ∙ ap of_backup c.of_second.ensures)
