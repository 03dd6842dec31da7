use Rattle.std.specs.Prelude.{map, string_bytes}
use Rattle.cmd_archive_push_wait.proofs.Ended.{HasWaited}
use Rattle.cmd_archive_push_wait.proofs.queued_file.queue_file.Given as goal

abbrev pub invariant-loop : goal.invariant-loop
invariant-loop g l =
    HasWaited l.fn.stanza l.fn.name l.fn.sum.0 (map string_bytes l.fn.arguments) l.counter (g.A.OtherProcesses.state l.fn.processes) (g.A.OtherProcesses.state l.processes)
    (g.D.Disk.state l.fn.repo) (g.D.Disk.state l.repo) (g.S.Disk.state l.fn.spool) (g.S.Disk.state l.spool)
