use Rattle.std.proofs.Common.{Err, ap, arith}
use Rattle.server_talk.specs.Views.{session_view}
use Rattle.server_talk.proofs.Replies.{system_cause, start_cause, start_known}
use Rattle.server_talk.proofs.backups.starting.begin.Goals as goal

pub returns-in-Err-clause-cause : goal.returns-in-Err-clause-cause
returns-in-Err-clause-cause g c =
    system_cause c.args.system (session_view c.args.session.now) (g.V.ServerConnection.state c.args.connection.now).pending _
    c.in-Err.fault c.in-Err.ensures.read (λ h. c.in-Err.ensures.cause.failed (ap Err h))

pub returns-in-Ok-start_backup-clause-known : goal.returns-in-Ok-start_backup-clause-known
returns-in-Ok-start_backup-clause-known g c =
    start_known c.args.system (session_view c.args.session.now) (g.V.ServerConnection.state c.args.connection.now).pending
    (g.V.ServerConnection.state c.check_system.new.connection).pending (g.V.ServerConnection.state c.start_backup.new.connection).pending
    (session_view c.check_system.new.session) (session_view c.start_backup.new.session) c.in-Ok.size.0
    c.in-Ok-start_backup.started c.in-Ok.ensures.read c.in-Ok-start_backup.ensures.read

pub returns-in-Err-start_backup-clause-cause : goal.returns-in-Err-start_backup-clause-cause
returns-in-Err-start_backup-clause-cause g c =
    start_cause c.args.system (session_view c.args.session.now) (g.V.ServerConnection.state c.args.connection.now).pending
    (g.V.ServerConnection.state c.check_system.new.connection).pending (session_view c.check_system.new.session) c.in-Ok.size.0 _
    c.in-Err-start_backup.fault c.in-Ok.ensures.read c.in-Err-start_backup.ensures.read
    (λ h. omega (arith, c.in-Err-start_backup.ensures.cause.failed (ap Err h), c.check_system.ensures.cause.later))
