use Rattle.std.proofs.Common.{map}
use Rattle.base_devices.specs.Cause.{Rises}
use Rattle.base_model.specs.Values.{backup_info_of, file_entry_of}
use Rattle.server_talk.specs.Causes.{StopCause}
use Rattle.cmd_types.specs.declared.stages.object.Object.TheVariants as objects
use Rattle.cmd_types.specs.Halts.{HaltCause, Only}
use Rattle.cmd_backup_common.proofs.Beginnings.{ends_with, halt_as}
use Rattle.backup_make.specs.Staged.{fetched_draft}
use Rattle.backup_make.specs.Touched.{IsOfBackup}
use Rattle.backup_make.proofs.Touched.{touched_none}
use Rattle.cmd_backup_common.specs.Priors.{made_label}
use Rattle.cmd_backup_offline.specs.Basing.{base_in}
use Rattle.cmd_backup_online.specs.Gathering.{Begun}
use Rattle.cmd_backup_online.specs.Talking.{SpokenCause}
use Rattle.cmd_backup_online.specs.Modelled.{OfTalk}
use Rattle.cmd_backup_online.proofs.Talks.{OrServer, given_up, not_stopped, on_err, server_from}
use Rattle.cmd_backup_online.proofs.server_session.talk.Goals as goal

pub returns-in-Err-gather-clause-cause : goal.returns-in-Err-gather-clause-cause
returns-in-Err-gather-clause-cause g c = given_up c.args.task.basis.stanza.now c.args.task.basis.order (g.T.DataFolder.state c.args.tree.now).nodes (backup_info_of c.args.task.next.list) (map file_entry_of c.args.task.basis.old.now) (map g.L.Link.link_state c.args.pool.now.links.items) c.args.pool.now.lost.items c.args.task.system
    (g.V.ServerConnection.state c.args.server.now).pending (g.V.ServerConnection.state c.give_up.new.server).pending _ _ _ _ c.in-Err-gather.halt c.give_up.result c.give_up.ensures.halt c.in-Err-gather.ensures.cause

pub returns-in_err-online-clause-unlisted : goal.returns-in_err-online-clause-unlisted
returns-in_err-online-clause-unlisted g c =
    let x = c.in-Ok-gather.ensures.gathered in
    on_err _ c.from_residual.result (Begun (fetched_draft c.in-Ok-gather.gathered.fetched) x.draft x.unlisted)

pub returns-in_err-online-clause-cause : goal.returns-in_err-online-clause-cause
returns-in_err-online-clause-cause g c =
    let stanza = c.args.task.basis.stanza.now in
    let nodes = (g.T.DataFolder.state c.args.tree.now).nodes in
    let order = c.args.task.basis.order in
    let list = backup_info_of c.args.task.next.list in
    let files = map file_entry_of c.args.task.basis.old.now in
    let links = map g.L.Link.link_state c.args.pool.now.links.items in
    let before = c.args.pool.now.lost.items in
    let old = (g.V.ServerConnection.state c.args.server.now) in
    let mid = (g.V.ServerConnection.state c.start.new.connection) in
    let new = (g.V.ServerConnection.state c.end_talk.new.server) in
    let repo = Rises (g.D.Disk.state c.args.repo.now).faults (g.D.Disk.state c.gather.new.repo).faults in
    let tree = Rises (g.T.DataFolder.state c.args.tree.now).faults (g.T.DataFolder.state c.gather.new.tree).faults in
    let rose = Rises old.faults new.faults in
    let clock = Rises (g.C.Clock.state c.args.clock.now).faults (g.C.Clock.state c.gather.new.clock).faults in
    let Why = OfTalk (StopCause c.in-Ok.begun mid.pending new.pending ⊥) in
    ends_with (HaltCause (SpokenCause stanza order nodes list files links before c.args.task.system old.pending new.pending) (OrServer repo tree rose clock)) c.from_residual.result c.in_err-online.field-0.0 c.from_residual.ensures.1
    (not_stopped stanza order nodes list files links before c.args.task.system old.pending new.pending repo tree rose clock c.in-Ok.begun mid.pending c.in-Ok.ensures.known c.in_err-online.field-0.0
    (halt_as Why Why (Only objects.Server (Rises mid.faults new.faults)) (Only objects.Server rose) (λ e h. h) (server_from old.faults mid.faults new.faults c.start.ensures.later) c.in_err-online.field-0.0 c.in_err-online.ensures.cause))

pub returns-in-Err-clause-only : goal.returns-in-Err-clause-only
returns-in-Err-clause-only g c =
    let b = c.args.task.basis in
    let label = made_label b.order.kind (base_in b.order.kind (backup_info_of c.args.task.next.list)) c.args.task.next.second in
    touched_none (IsOfBackup b.stanza.now label) (g.D.Disk.state c.args.repo.now).view
