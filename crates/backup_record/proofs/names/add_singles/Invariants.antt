use Rattle.std.proofs.Common.{◌≡◌, ◌++◌, map, take, string_bytes}
use Rattle.worker_protocol.specs.Views.{job_of}
use Rattle.backup_record.specs.Naming.{single_in}
use Rattle.backup_record.proofs.names.add_singles.Given as goal

-- the names of the jobs so far
abbrev pub invariant-loop-job : goal.invariant-loop-job
invariant-loop-job l = map string_bytes l.names.items ≡ map string_bytes l.fn.names.items ++ map (single_in l.folder) (map job_of (take l.job-index l.jobs))
