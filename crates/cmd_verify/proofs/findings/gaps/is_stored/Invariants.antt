use Rattle.std.proofs.Common.{take}
use Rattle.base_model.specs.Text.{In}
use Rattle.cmd_verify.proofs.findings.gaps.is_stored.Given as goal

abbrev pub invariant-loop-other : goal.invariant-loop-other
invariant-loop-other l = ¬ In l.segment (take l.other-index l.stored)
