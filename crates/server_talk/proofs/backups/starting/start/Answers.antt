use Rattle.std.proofs.Common.{Err, ap, arith}
use Rattle.base_devices.specs.Cause.{Rises}
use Rattle.server_talk.specs.Views.{session_view}
use Rattle.server_talk.proofs.Parted.{open_closes, part_start}
use Rattle.server_talk.proofs.Replies.{open_cause, begin_cause, begin_known}
use Rattle.server_talk.proofs.backups.starting.start.Goals as goal

pub returns-in-Err-clause-cause : goal.returns-in-Err-clause-cause
returns-in-Err-clause-cause g c =
    open_cause c.args.system (g.V.ServerConnection.state c.args.connection.now).pending _ c.in-Err.fault c.in-Err.ensures.read
    (λ h. c.in-Err.ensures.cause.failed (ap Err h))

pub returns-in-Err-clause-closed : goal.returns-in-Err-clause-closed
returns-in-Err-clause-closed g c =
    open_closes _ (g.V.ServerConnection.state c.args.connection.now).sent _ _ c.in-Err.fault
    (λ h. c.in-Err.ensures.cause.failed (ap Err h)) c.in-Err.ensures.parted

pub returns-in-Ok-begin-clause-known : goal.returns-in-Ok-begin-clause-known
returns-in-Ok-begin-clause-known g c =
    begin_known c.args.system (session_view c.in-Ok.session) (g.V.ServerConnection.state c.args.connection.now).pending
    (g.V.ServerConnection.state c.open.new.connection).pending (g.V.ServerConnection.state c.begin.new.connection).pending
    (session_view c.begin.new.session) _ c.in-Ok.ensures.read c.in-Ok-begin.ensures.known

pub returns-in-Err-begin-clause-cause : goal.returns-in-Err-begin-clause-cause
returns-in-Err-begin-clause-cause g c = part_start _ _ _ _ _ c.part.ensures.fault
    (begin_cause c.args.system (session_view c.in-Ok.session) (g.V.ServerConnection.state c.args.connection.now).pending
    (g.V.ServerConnection.state c.open.new.connection).pending
    (Rises (g.V.ServerConnection.state c.open.new.connection).faults (g.V.ServerConnection.state c.begin.new.connection).faults) _ c.in-Err-begin.fault
    c.in-Ok.ensures.read (λ h. omega (arith, h, c.open.ensures.cause.later, c.part.ensures.later))
    c.in-Err-begin.ensures.cause)
