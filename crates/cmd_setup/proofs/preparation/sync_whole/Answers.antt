use Rattle.cmd_setup.proofs.Begun.{stanza_settles}
use Rattle.cmd_setup.proofs.preparation.sync_whole.Goals as goal

pub returns-in-Ok-clause-members : goal.returns-in-Ok-clause-members
returns-in-Ok-clause-members g c = stanza_settles c.args.stanza.now (g.D.Disk.state c.args.repo.now).view (g.D.Disk.state c.begin.new.d).view c.in-Ok.ensures.settled
