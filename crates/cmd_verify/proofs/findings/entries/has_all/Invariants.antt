use Rattle.std.proofs.Common.{take}
use Rattle.base_model.specs.declared.labels.Label.{Label}
use Rattle.base_model.specs.Text.{In}
use Rattle.cmd_verify.proofs.findings.entries.has_all.Given as goal

abbrev pub invariant-loop-label : goal.invariant-loop-label
invariant-loop-label l = (k : Label) → In k (take l.label-index l.others) → In k l.labels
