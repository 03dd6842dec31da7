use Rattle.std.proofs.Common.{take, map}
use Rattle.base_model.specs.Values.{entry_of}
use Rattle.cmd_verify.specs.Adding.{Adds, OfSome}
use Rattle.cmd_verify.specs.Contradictions.{EntryContradicts}
use Rattle.cmd_verify.proofs.findings.priors.tell_entries.Given as goal

abbrev pub invariant-loop-entry : goal.invariant-loop-entry
invariant-loop-entry l = Adds (OfSome (EntryContradicts l.stanza (map entry_of l.entries)) (map entry_of (take l.entry-index l.entries))) l.fn.found.items l.found.items
