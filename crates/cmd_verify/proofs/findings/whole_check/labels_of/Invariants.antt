use Rattle.std.proofs.Common.{◌≡◌, take, map}
use Rattle.base_model.specs.Values.{Entry, entry_of}
use Rattle.cmd_verify.proofs.findings.whole_check.labels_of.Given as goal

abbrev pub invariant-loop-entry : goal.invariant-loop-entry
invariant-loop-entry l = l.labels.items ≡ map (λ (e : Entry). e.label) (map entry_of (take l.entry-index l.listed))
