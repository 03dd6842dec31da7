use Rattle.std.proofs.Common.{◌∙◌}
use Rattle.program_run.proofs.Names.{names_fit}
use Rattle.program_run.proofs.given.server.Goals as goal

pub invariant_of-result : goal.invariant_of-result
invariant_of-result c = let x = c.requires.1.options in
    record { short = names_fit c.requires.0.source _ _ (c.deref-2.ensures ∙ x.pg1_user) (c.deref-3.ensures ∙ x.pg1_database) }
