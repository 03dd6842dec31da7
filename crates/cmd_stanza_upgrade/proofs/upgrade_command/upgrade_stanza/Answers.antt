use Rattle.std.proofs.Common.{ap}
use Rattle.std.specs.Prelude.{Some, option_map}
use Rattle.base_model.specs.Steps.{StanzaUpgrade}
use Rattle.base_model.specs.Values.{archive_info_of, backup_info_of}
use Rattle.repo_stanza.specs.ControlFile.{first_cluster}
use Rattle.repo_stanza.specs.Owned.{IsOfPairs}
use Rattle.base_disk.proofs.Changes.{only_none}
use Rattle.cmd_stanza_create.specs.Server.{server_view}
use Rattle.cmd_stanza_create.proofs.Undone.{undone_does, undone_still, exit_does, exit_err}
use Rattle.cmd_stanza_upgrade.specs.Faults.{upgrade_early}
use Rattle.cmd_stanza_upgrade.proofs.Asked.{differ_closes, asked_closes, list_closes, differ_cause, asked_cause, list_cause, refused_of, failed_of, err_refused, err_failed}
use Rattle.cmd_stanza_upgrade.proofs.Lists.{have_list, same_length}
use Rattle.cmd_stanza_upgrade.proofs.upgrade_command.upgrade_stanza.Goals as goal

-- ---- the histories differ

pub returns-in_err-list-clause-does : goal.returns-in_err-list-clause-does
returns-in_err-list-clause-does g c = exit_does upgrade_early c.args.stanza.now
    (StanzaUpgrade (Some (first_cluster c.args.values.control))) (g.D.Disk.state c.args.repo.now).view
    c.from_residual.result c.in_err-list.field-0.0 c.from_residual.ensures.1

pub returns-in_err-list-clause-refused : goal.returns-in_err-list-clause-refused
returns-in_err-list-clause-refused g c = undone_still _ (g.D.Disk.state c.args.repo.now).view

pub returns-in_err-list-clause-only : goal.returns-in_err-list-clause-only
returns-in_err-list-clause-only g c = only_none (IsOfPairs c.args.stanza.now) (g.D.Disk.state c.args.repo.now).view

pub returns-in_err-list-clause-closed : goal.returns-in_err-list-clause-closed
returns-in_err-list-clause-closed g c = exit_err c.from_residual.result c.in_err-list.field-0.0 c.from_residual.ensures.1 _
    (differ_closes (archive_info_of c.args.values.archive) (backup_info_of c.args.values.backup)
    (g.V.ServerConnection.state c.args.connection.now) c.in_err-list.field-0.0 c.in_err-list.ensures.cause)

pub returns-in_err-list-clause-cause : goal.returns-in_err-list-clause-cause
returns-in_err-list-clause-cause g c = exit_err c.from_residual.result c.in_err-list.field-0.0 c.from_residual.ensures.1 _
    (refused_of _ _ c.in_err-list.field-0.0
    (differ_cause c.args.stanza.now c.args.values.control (option_map server_view c.args.server)
    (g.D.Disk.state c.args.repo.now).view.now (g.V.ServerConnection.state c.args.connection.now).pending ⊥ ⊥
    c.args.values.archive c.args.values.backup c.requires.archive c.requires.backup c.in_err-list.field-0.0
    c.in_err-list.ensures.cause))

pub returns-in_err-list-clause-failed : goal.returns-in_err-list-clause-failed
returns-in_err-list-clause-failed g c = exit_err c.from_residual.result c.in_err-list.field-0.0 c.from_residual.ensures.1 _
    (failed_of _ _ c.in_err-list.field-0.0
    (differ_cause c.args.stanza.now c.args.values.control (option_map server_view c.args.server)
    (g.D.Disk.state c.args.repo.now).view.now (g.V.ServerConnection.state c.args.connection.now).pending _ _
    c.args.values.archive c.args.values.backup c.requires.archive c.requires.backup c.in_err-list.field-0.0
    c.in_err-list.ensures.cause))

-- ---- the server's answer is refused

pub returns-in-Err-clause-does : goal.returns-in-Err-clause-does
returns-in-Err-clause-does g c = undone_does upgrade_early c.args.stanza.now
    (StanzaUpgrade (Some (first_cluster c.args.values.control))) (g.D.Disk.state c.args.repo.now).view c.of_server.result

pub returns-in-Err-clause-refused : goal.returns-in-Err-clause-refused
returns-in-Err-clause-refused g c = undone_still _ (g.D.Disk.state c.args.repo.now).view

pub returns-in-Err-clause-only : goal.returns-in-Err-clause-only
returns-in-Err-clause-only g c = only_none (IsOfPairs c.args.stanza.now) (g.D.Disk.state c.args.repo.now).view

pub returns-in-Err-clause-closed : goal.returns-in-Err-clause-closed
returns-in-Err-clause-closed g c = asked_closes (g.V.ServerConnection.state c.args.connection.now)
    (g.V.ServerConnection.state c.check_server.new.connection) c.in-Err.halt c.of_server.result c.of_server.ensures
    c.in-Err.ensures.closed

pub returns-in-Err-clause-cause : goal.returns-in-Err-clause-cause
returns-in-Err-clause-cause g c = refused_of _ _ c.of_server.result
    (asked_cause c.args.stanza.now c.args.values.control (option_map server_view c.args.server)
    (g.D.Disk.state c.args.repo.now).view.now (g.V.ServerConnection.state c.args.connection.now).pending ⊥ _
    c.in-Err.halt c.of_server.result c.of_server.ensures c.in-Err.ensures.cause)

pub returns-in-Err-clause-failed : goal.returns-in-Err-clause-failed
returns-in-Err-clause-failed g c = failed_of _ _ c.of_server.result
    (asked_cause c.args.stanza.now c.args.values.control (option_map server_view c.args.server)
    (g.D.Disk.state c.args.repo.now).view.now (g.V.ServerConnection.state c.args.connection.now).pending _ _
    c.in-Err.halt c.of_server.result c.of_server.ensures c.in-Err.ensures.cause)

-- ---- the cluster is added, or kept

pub upgrade_list-requires-clause-list : goal.upgrade_list-requires-clause-list
upgrade_list-requires-clause-list g c = have_list c.args.stanza.now (g.D.Disk.state c.args.repo.now).view.now
    c.args.values.archive c.args.values.backup c.in_ok-list.list c.requires.archive c.requires.backup
    c.in_ok-list.ensures.settled

pub upgrade_list-requires-clause-same : goal.upgrade_list-requires-clause-same
upgrade_list-requires-clause-same g c = same_length (archive_info_of c.args.values.archive)
    (backup_info_of c.args.values.backup) (backup_info_of c.in_ok-list.list) c.in_ok-list.ensures.settled

pub returns-in-Ok-clause-closed : goal.returns-in-Ok-clause-closed
returns-in-Ok-clause-closed g c = list_closes c.args.stanza.now c.args.values.control
    (g.D.Disk.state c.args.repo.now).view.now _ c.args.server (g.V.ServerConnection.state c.args.connection.now)
    (g.V.ServerConnection.state c.check_server.new.connection) (λ none. ap (λ x. g.V.ServerConnection.state x)
    (c.check_server.ensures.quiet none)) c.in-Ok.ensures.asks c.upgrade_list.result c.upgrade_list.ensures.cause

pub returns-in-Ok-clause-cause : goal.returns-in-Ok-clause-cause
returns-in-Ok-clause-cause g c = err_refused _ _ c.upgrade_list.result
    (list_cause c.args.stanza.now c.args.values.control (option_map server_view c.args.server)
    (g.D.Disk.state c.args.repo.now).view.now (g.V.ServerConnection.state c.args.connection.now).pending _ ⊥
    c.upgrade_list.result c.upgrade_list.ensures.cause)

pub returns-in-Ok-clause-failed : goal.returns-in-Ok-clause-failed
returns-in-Ok-clause-failed g c = err_failed _ _ c.upgrade_list.result
    (list_cause c.args.stanza.now c.args.values.control (option_map server_view c.args.server)
    (g.D.Disk.state c.args.repo.now).view.now (g.V.ServerConnection.state c.args.connection.now).pending _ _
    c.upgrade_list.result c.upgrade_list.ensures.cause)
