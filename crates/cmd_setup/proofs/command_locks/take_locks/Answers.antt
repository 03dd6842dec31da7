use Rattle.std.proofs.Common.{◌∙◌}
use Rattle.cmd_setup.proofs.Idle.{no_first, no_second}
use Rattle.cmd_setup.proofs.command_locks.take_locks.Goals as goal

pub returns-in_err-take_one-clause-idle : goal.returns-in_err-take_one-clause-idle
returns-in_err-take_one-clause-idle g c = λ first second. c.take_one.ensures.none (no_first c.args.names.now c.args.plan.now c.args.stanza.now c.requires.names first)

pub returns-in_err-take_one-2-clause-idle : goal.returns-in_err-take_one-2-clause-idle
returns-in_err-take_one-2-clause-idle g c = λ first second. c.take_one-2.ensures.none (no_second c.args.names.now c.args.plan.now c.args.stanza.now c.requires.names second)
    ∙ c.take_one.ensures.none (no_first c.args.names.now c.args.plan.now c.args.stanza.now c.requires.names first)

pub returns-clause-idle : goal.returns-clause-idle
returns-clause-idle g c = λ first second. c.take_one-2.ensures.none (no_second c.args.names.now c.args.plan.now c.args.stanza.now c.requires.names second)
    ∙ c.take_one.ensures.none (no_first c.args.names.now c.args.plan.now c.args.stanza.now c.requires.names first)
