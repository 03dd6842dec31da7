use Rattle.std.proofs.Common.{◌≡◌, ◌++◌, map, drop, length}
use Rattle.base_model.specs.Values.{file_entry_of}
use Rattle.worker_protocol.specs.Views.{job_of}
use Rattle.backup_plan.specs.Digests.{digest_jobs}
use Rattle.backup_plan.specs.Views.{taken_of}
use Rattle.cmd_backup_offline.specs.Equal.{marks_of as spec_marks}
use Rattle.cmd_backup_offline.proofs.equal.marks_of.Given as goal

-- the marks so far and those of the files to come are all
abbrev pub invariant-loop-file : goal.invariant-loop-file
invariant-loop-file l =
    (map job_of l.jobs_left ≡ digest_jobs (map file_entry_of l.old) (map taken_of (drop l.file-index l.files)))
    × (length l.ends_left ≡ length l.jobs_left)
    × (l.marks.items ++ spec_marks (map file_entry_of l.old) (map taken_of (drop l.file-index l.files)) l.ends_left ≡ spec_marks (map file_entry_of l.old) (map taken_of l.files) l.ends)
