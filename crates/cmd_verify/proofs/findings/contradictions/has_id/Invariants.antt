use Rattle.std.proofs.Common.{take}
use Rattle.cmd_verify.specs.Contradictions.{HasId}
use Rattle.cmd_verify.proofs.findings.contradictions.has_id.Given as goal

abbrev pub invariant-loop-cluster : goal.invariant-loop-cluster
invariant-loop-cluster l = ¬ HasId (take l.cluster-index l.history) l.id
