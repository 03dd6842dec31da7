use Rattle.std.proofs.Common.{take}
use Rattle.base_model.specs.Text.{In}
use Rattle.cmd_verify.proofs.findings.entries.has_cluster.Given as goal

abbrev pub invariant-loop-other : goal.invariant-loop-other
invariant-loop-other l = ¬ In l.cluster (take l.other-index l.history)
