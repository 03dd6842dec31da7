use Rattle.std.specs.Prelude.{Some, option_map}
use Rattle.base_devices.specs.Cause.{Rises}
use Rattle.base_model.specs.Steps.{StanzaCreate}
use Rattle.repo_stanza.specs.ControlFile.{first_cluster}
use Rattle.repo_stanza.specs.Owned.{IsOfPairs}
use Rattle.base_disk.proofs.Changes.{only_none}
use Rattle.cmd_stanza_create.specs.Server.{server_view}
use Rattle.cmd_stanza_create.specs.Creating.{create_early}
use Rattle.cmd_stanza_create.proofs.Creates.{made_cause, made_closes, asked_closes, asked_cause}
use Rattle.cmd_stanza_create.proofs.Undone.{undone_does, undone_still}
use Rattle.cmd_stanza_create.proofs.stanza_creation.create_stanza.Goals as goal

pub returns-in-Err-clause-does : goal.returns-in-Err-clause-does
returns-in-Err-clause-does g c = undone_does create_early c.args.stanza.now
    (StanzaCreate (Some (first_cluster c.args.known.now))) (g.D.Disk.state c.args.repo.now).view c.of_server.result

pub returns-in-Err-clause-refused : goal.returns-in-Err-clause-refused
returns-in-Err-clause-refused g c = undone_still _ (g.D.Disk.state c.args.repo.now).view

pub returns-in-Err-clause-only : goal.returns-in-Err-clause-only
returns-in-Err-clause-only g c = only_none (IsOfPairs c.args.stanza.now) (g.D.Disk.state c.args.repo.now).view

pub returns-in-Err-clause-closed : goal.returns-in-Err-clause-closed
returns-in-Err-clause-closed g c = asked_closes _ (g.V.ServerConnection.state c.check_server.new.connection).sent
    c.in-Err.halt c.of_server.result c.of_server.ensures c.in-Err.ensures.closed

pub returns-in-Err-clause-cause : goal.returns-in-Err-clause-cause
returns-in-Err-clause-cause g c = asked_cause c.args.stanza.now c.args.known.now (option_map server_view c.args.server)
    (g.D.Disk.state c.args.repo.now).view.now (g.V.ServerConnection.state c.args.connection.now).pending _ _
    c.in-Err.halt c.of_server.result c.of_server.ensures c.in-Err.ensures.cause

pub returns-in-Ok-clause-closed : goal.returns-in-Ok-clause-closed
returns-in-Ok-clause-closed g c = made_closes c.args.stanza.now c.args.known.now _ _ _
    (g.V.ServerConnection.state c.check_server.new.connection).sent c.make.result c.make.ensures.cause

pub returns-in-Ok-clause-cause : goal.returns-in-Ok-clause-cause
returns-in-Ok-clause-cause g c = made_cause c.args.stanza.now c.args.known.now (option_map server_view c.args.server)
    (g.D.Disk.state c.args.repo.now).view.now (g.V.ServerConnection.state c.args.connection.now).pending _ _ c.make.result _
    (λ x. x) c.make.ensures.cause
