use Rattle.cmd_backup_online.proofs.Talks.{stops_with}
use Rattle.cmd_backup_online.proofs.server_session.end_talk.Goals as goal

pub returns-in-Ok-clause-stopped : goal.returns-in-Ok-clause-stopped
returns-in-Ok-clause-stopped g c = stops_with c.online_of.result c.args.begun _ _ c.in-Ok.finished c.in-Ok.ensures.begins c.in-Ok.ensures.known c.online_of.ensures.part c.online_of.ensures.label
