use Rattle.std.proofs.Common.{◌≡◌, ◌++◌, map, drop}
use Rattle.base_model.specs.Values.{file_entry_of}
use Rattle.worker_protocol.specs.Views.{job_of}
use Rattle.backup_plan.specs.Digests.{digest_jobs}
use Rattle.backup_plan.specs.Views.{taken_of}
use Rattle.backup_plan.proofs.digest_plan.digests.Given as goal

-- the jobs so far and those of the files to come are all
abbrev pub invariant-loop-file : goal.invariant-loop-file
invariant-loop-file l = map job_of l.jobs.items ++ digest_jobs (map file_entry_of l.old) (map taken_of (drop l.file-index l.files)) ≡ digest_jobs (map file_entry_of l.old) (map taken_of l.files)
