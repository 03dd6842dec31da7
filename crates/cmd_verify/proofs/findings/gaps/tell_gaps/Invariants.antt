use Rattle.std.proofs.Common.{◌≡◌, ◌≤◌, ◌-◌}
use Rattle.base_model.specs.ManifestText.{position}
use Rattle.repo_names.specs.Next.{IsOfLog}
use Rattle.cmd_verify.specs.Adding.{Adds}
use Rattle.cmd_verify.specs.Gaps.{GapsBelow}
use Rattle.cmd_verify.proofs.findings.gaps.tell_gaps.Given as goal

abbrev pub invariant-loop-segment : goal.invariant-loop-segment
invariant-loop-segment l = record {
  of_log : IsOfLog l.wal.size.0 l.segment;
  timeline : l.segment.timeline ≡ l.wal.span.start.timeline;
  low : position l.wal.size.0 l.wal.span.start ≤ position l.wal.size.0 l.segment;
  high : position l.wal.size.0 l.segment ≤ position l.wal.size.0 l.wal.span.stop;
  adds : Adds (GapsBelow l.name l.stored l.wal.size.0 l.wal.span (position l.wal.size.0 l.segment)) l.fn.found.items l.found.items;
}

abbrev pub decreases-loop-segment : goal.decreases-loop-segment
decreases-loop-segment l = position l.wal.size.0 l.wal.span.stop - position l.wal.size.0 l.segment
