use Rattle.std.proofs.Common.{take}
use Rattle.cmd_verify.specs.Adding.{Adds, OfSome}
use Rattle.cmd_verify.specs.References.{IsUnlisted}
use Rattle.cmd_verify.proofs.findings.references.tell_unlisted.Given as goal

abbrev pub invariant-loop-label : goal.invariant-loop-label
invariant-loop-label l = Adds (OfSome (IsUnlisted l.name l.listed) (take l.label-index l.labels)) l.fn.found.items l.found.items
