use Rattle.std.proofs.Common.{take}
use Rattle.cmd_verify.specs.Adding.{Adds, OfSome}
use Rattle.cmd_verify.specs.Contradicting.{IsOutsideOf}
use Rattle.cmd_verify.proofs.findings.contradictions.tell_files.Given as goal

abbrev pub invariant-loop-file : goal.invariant-loop-file
invariant-loop-file l = Adds (OfSome (IsOutsideOf l.history) (take l.file-index l.files)) l.fn.found.items l.found.items
