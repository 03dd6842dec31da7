use Rattle.std.proofs.Common.{take, ◌↔◌}
use Rattle.base_model.specs.declared.wal.Segment.{Segment}
use Rattle.base_model.specs.Text.{In}
use Rattle.cmd_verify.specs.Gaps.{HasWhole}
use Rattle.cmd_verify.proofs.findings.gaps.whole_of.Given as goal

abbrev pub invariant-loop-file : goal.invariant-loop-file
invariant-loop-file l = (s : Segment) → In s l.stored.items ↔ HasWhole l.id l.span (take l.file-index l.files) s
