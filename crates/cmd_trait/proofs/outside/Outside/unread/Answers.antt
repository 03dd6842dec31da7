use Rattle.cmd_trait.proofs.CallEffects.{none_held, none_ready}
use Rattle.cmd_trait.proofs.outside.Outside.unread.Goals as goal

pub returns-clause-locked : goal.returns-clause-locked
returns-clause-locked g c =
    let m = g.X.Command.meaning c.args._command.now in
    none_held m.plan ((g.X.Command.lawful c.args._command.now).opens_only c.requires.staged) c.args._places.now.stanza.now (g.K.Locks.state c.args.self.now.locks).taken c.requires.free

pub returns-clause-ready : goal.returns-clause-ready
returns-clause-ready g c =
    let m = g.X.Command.meaning c.args._command.now in
    none_ready m.plan ((g.X.Command.lawful c.args._command.now).opens_only c.requires.staged) c.args._places.now.stanza.now (g.D.Disk.state c.args.self.now.repo).view.now (g.T.DataFolder.state c.args.self.now.tree).nodes
