use Rattle.std.proofs.Common.{take, map}
use Rattle.base_model.specs.Values.{entry_of}
use Rattle.cmd_verify.specs.Contradictions.{HasOtherPrior}
use Rattle.cmd_verify.proofs.findings.priors.has_other_prior.Given as goal

abbrev pub invariant-loop-other : goal.invariant-loop-other
invariant-loop-other l = ¬ HasOtherPrior (map entry_of (take l.other-index l.entries)) (entry_of l.entry)
