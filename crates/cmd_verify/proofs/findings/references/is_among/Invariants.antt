use Rattle.std.proofs.Common.{take}
use Rattle.base_model.specs.Text.{In}
use Rattle.cmd_verify.proofs.findings.references.is_among.Given as goal

abbrev pub invariant-loop-other : goal.invariant-loop-other
invariant-loop-other l = ¬ In l.label (take l.other-index l.labels)
