use Rattle.std.proofs.Common.{◌≡◌, ◌++◌, ◌+◌, map, drop, string_bytes}
use Rattle.worker_protocol.specs.Views.{job_of}
use Rattle.backup_record.specs.Naming.{bundles_in}
use Rattle.backup_record.proofs.names.add_bundles.Given as goal

-- the names so far and those to come are all
abbrev pub invariant-loop-i : goal.invariant-loop-i
invariant-loop-i l = map string_bytes l.names.items ++ bundles_in l.folder (l.i + 1) (map job_of (drop l.i l.jobs)) ≡ map string_bytes l.fn.names.items ++ bundles_in l.folder 1 (map job_of l.jobs)
