use Rattle.std.proofs.Common.{◌∙◌}
use Rattle.cmd_setup.proofs.Idle.{no_first, no_second}
use Rattle.cmd_setup.proofs.command_locks.release_locks.Goals as goal

pub returns-clause-idle : goal.returns-clause-idle
returns-clause-idle g c = λ first second. c.release_one-2.ensures.none (no_first c.args.names.now c.args.plan.now c.args.stanza.now c.requires.names first)
    ∙ c.release_one.ensures.none (no_second c.args.names.now c.args.plan.now c.args.stanza.now c.requires.names second)
