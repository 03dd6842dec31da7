use Rattle.server_talk.proofs.Ends.{ended_or}
use Rattle.cmd_stanza_create.proofs.Talks.{all_ok, open_known, check_same, check_known, part_known}
use Rattle.cmd_stanza_create.proofs.server_check.talk.Goals as goal

pub returns-in-Err-clause-known : goal.returns-in-Err-clause-known
returns-in-Err-clause-known g c = open_known c.args.system
    (g.V.ServerConnection.state c.args.connection.now).pending c.in-Err.fault c.in-Err.ensures.read

pub returns-in-Err-clause-ended : goal.returns-in-Err-clause-ended
returns-in-Err-clause-ended g c = λ inside. ended_or _ _ _ _ (c.in-Err.ensures.parted inside)

pub returns-in-Ok-check_system-clause-same : goal.returns-in-Ok-check_system-clause-same
returns-in-Ok-check_system-clause-same g c =
    all_ok c.close.result _ (check_same c.args.system _ (g.V.ServerConnection.state c.args.connection.now).pending
    (g.V.ServerConnection.state c.open.new.connection).pending _ _ _ c.in-Ok.ensures.read c.in-Ok-check_system.ensures.read)

pub returns-in-Err-check_system-clause-known : goal.returns-in-Err-check_system-clause-known
returns-in-Err-check_system-clause-known g c =
    part_known c.args.system (g.V.ServerConnection.state c.args.connection.now).pending c.in-Err-check_system.fault c.part.result
    c.part.ensures.fault
    (check_known c.args.system _ (g.V.ServerConnection.state c.args.connection.now).pending
    (g.V.ServerConnection.state c.open.new.connection).pending c.in-Err-check_system.fault c.in-Ok.ensures.read
    c.in-Err-check_system.ensures.read)
