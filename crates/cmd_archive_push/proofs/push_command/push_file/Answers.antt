use Rattle.std.proofs.Common.{Option, subst}
use Rattle.base_devices.specs.DataFolder.{Nodes}
use Rattle.base_model.specs.Values.{archive_info_of}
use Rattle.archive_store.specs.Still.{still_self}
use Rattle.cmd_types.proofs.Besides.{still_beside}
use Rattle.cmd_archive_push.proofs.Doings.{none_did, asked_on}
use Rattle.cmd_archive_push.specs.Storing.{PutsOrder}
use Rattle.cmd_archive_push.proofs.Putting.{kept_current, none_put}
use Rattle.cmd_archive_push.proofs.Opened.{unopened_ends}
use Rattle.cmd_archive_push.proofs.push_command.push_file.Goals as goal

pub returns-in_err-id-clause-does : goal.returns-in_err-id-clause-does
returns-in_err-id-clause-does g c =
    λ command asked. none_did c.args.stanza.now command
    (g.D.Disk.state c.args.repo.now).view c.from_residual.result c.in_err-id.field-0.0 c.from_residual.ensures.1

pub returns-in_err-log-clause-does : goal.returns-in_err-log-clause-does
returns-in_err-log-clause-does g c =
    λ command asked. none_did c.args.stanza.now command
    (g.D.Disk.state c.args.repo.now).view c.from_residual-in_err-log.result c.in_err-log.field-0.0
    c.from_residual-in_err-log.ensures.1

pub returns-in_err-log-clause-cause : goal.returns-in_err-log-clause-cause
returns-in_err-log-clause-cause g c =
    unopened_ends c.args.stanza.now c.args.order (g.D.Disk.state c.args.repo.now).view.now
    (g.T.DataFolder.state c.args.tree.now).nodes c.args.known.now c.in_ok-id.id
    (archive_info_of c.args.info.now) c.requires.shows c.requires.pair c.in_ok-id.ensures.id
    _ _ c.deref.result.now c.limit_of.result c.deref.ensures c.limit_of.ensures.limit c.from_residual-in_err-log.result
    c.in_err-log.field-0.0 c.from_residual-in_err-log.ensures.1 c.in_err-log.ensures.cause

pub returns-clause-does : goal.returns-clause-does
returns-clause-does g c = λ command asked. c.store.ensures.does command
    (asked_on (g.T.DataFolder.state c.args.tree.now).nodes _ c.args.order.folder.now c.args.order.path.now command
    c.open_log_file.ensures.looks.nodes asked)

pub returns-in_err-id-clause-beside : goal.returns-in_err-id-clause-beside
returns-in_err-id-clause-beside g c = still_beside c.args.stanza.now _ _ (still_self (g.D.Disk.state c.args.repo.now).view)

pub returns-in_err-log-clause-beside : goal.returns-in_err-log-clause-beside
returns-in_err-log-clause-beside g c = still_beside c.args.stanza.now _ _ (still_self (g.D.Disk.state c.args.repo.now).view)

pub returns-in_err-id-clause-puts : goal.returns-in_err-id-clause-puts
returns-in_err-id-clause-puts g c =
    let at = c.in_err-id.ensures.mismatch in
    none_put c.args.stanza.now c.args.order (g.D.Disk.state c.args.repo.now).view (g.T.DataFolder.state c.args.tree.now).nodes at.0
    (kept_current c.args.stanza.now (g.D.Disk.state c.args.repo.now).view.now (archive_info_of c.args.info.now) c.requires.pair at.0 at.1)

pub returns-in_err-log-clause-puts : goal.returns-in_err-log-clause-puts
returns-in_err-log-clause-puts g c =
    let at = c.in_ok-id.ensures.id in
    none_put c.args.stanza.now c.args.order (g.D.Disk.state c.args.repo.now).view (g.T.DataFolder.state c.args.tree.now).nodes at.0
    (kept_current c.args.stanza.now (g.D.Disk.state c.args.repo.now).view.now (archive_info_of c.args.info.now) c.requires.pair at.0 at.1)

pub returns-clause-puts : goal.returns-clause-puts
returns-clause-puts g c =
    subst (λ (o : Option Nodes). PutsOrder c.args.stanza.now c.args.order (g.D.Disk.state c.args.repo.now).view (g.D.Disk.state c.store.new.repo).view o) c.open_log_file.ensures.looks.nodes c.store.ensures.puts
