use Rattle.std.proofs.Common.{◌∙◌}
use Rattle.program_run.proofs.InForce.{rules_are}
use Rattle.program_run.proofs.given.rules.Goals as goal

pub returns : goal.returns
returns c = λ s is. c.rules_of.ensures ∙ rules_are c.args.command.now.options s.source is.options
