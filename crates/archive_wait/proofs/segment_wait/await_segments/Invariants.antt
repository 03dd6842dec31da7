use Rattle.std.proofs.Common.{◌≡◌}
use Rattle.std.specs.Prelude.{IsSomeAnd}
use Rattle.archive_wait.specs.Stored.{HoldsPart}
use Rattle.archive_wait.proofs.Waits.{HasWaited}
use Rattle.archive_wait.proofs.segment_wait.await_segments.Given as goal

abbrev pub invariant-loop : goal.invariant-loop
invariant-loop g l = record {
  waited : HasWaited l.counter (g.A.OtherProcesses.state l.fn.processes) (g.A.OtherProcesses.state l.processes)
      (g.D.Disk.state l.fn.repo) (g.D.Disk.state l.repo) (g.S.Disk.state l.fn.spool) (g.S.Disk.state l.spool);
  quiet : IsSomeAnd (g.D.Disk.state l.fn.repo).view.now (HoldsPart l.fn.stanza l.fn.id l.fn.wal)
      → (l.processes ≡ l.fn.processes) × (l.spool ≡ l.fn.spool) × ((g.D.Disk.state l.repo).view.now ≡ (g.D.Disk.state l.fn.repo).view.now);
}
