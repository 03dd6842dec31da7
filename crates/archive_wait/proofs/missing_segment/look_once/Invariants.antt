use Rattle.archive_wait.proofs.Coming.{HasCome}
use Rattle.archive_wait.proofs.missing_segment.look_once.Given as goal

abbrev pub invariant-loop : goal.invariant-loop
invariant-loop g l =
    HasCome l.fn.stanza l.fn.id l.fn.wal l.counter l.segment (g.D.Disk.state l.fn.repo) (g.D.Disk.state l.repo)
