use Rattle.cmd_trait.specs.Code.{place_of}
use Rattle.cmd_trait.proofs.CallEffects.{alone_own}
use Rattle.cmd_trait.proofs.outside.Outside.alone.Goals as goal

pub returns-clause-did : goal.returns-clause-did
returns-clause-did g c =
    alone_own (place_of c.args.places.now) (g.X.Command.meaning c.args.command.now) (g.X.Command.lawful c.args.command.now) c.requires.staged _ _ c.run.result c.own_end.result c.own_end.ensures c.run.ensures.ran
