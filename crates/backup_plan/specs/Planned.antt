-- What the code plans and takes, by the definitions' values. Own.
use Rattle.std.specs.Prelude.{◌≡◌, Bool, List, ◌++◌, length, map}
use Rattle.base_model.specs.declared.files.FileEntry as rust_file_entry
use Rattle.base_model.specs.Values.{file_entry_of}
use Rattle.worker_protocol.specs.declared.frames.frames.Job as rust_job
use Rattle.worker_protocol.specs.Frames.{Job}
use Rattle.worker_protocol.specs.Views.{job_of}
use Rattle.backup_plan.specs.declared.values.BackupPlan.{BackupPlan}
use Rattle.backup_plan.specs.declared.values.Listing.{Listing}
use Rattle.backup_plan.specs.declared.values.PlanSettings.{PlanSettings}
use Rattle.backup_plan.specs.declared.values.Taken as rust_taken
use Rattle.backup_plan.specs.Digests.{digest_jobs}
use Rattle.backup_plan.specs.Filter.{ListedNode, files_of, folders_of}
use Rattle.backup_plan.specs.Layout.{Layout, layout, jobs_of}
use Rattle.backup_plan.specs.Views.{taken_of, taken_files, taken_folders}

-- the layout of these files, besides those of the prior backup
abbrev pub layout_for : PlanSettings → List rust_file_entry.FileEntry → List rust_taken.Taken → List Bool → Layout
layout_for settings old files equal = layout settings (map file_entry_of old) (map taken_of files) equal

-- a job for the digest of each of these files that may be the one of the prior backup
abbrev pub digests_for : List rust_file_entry.FileEntry → List rust_taken.Taken → List Job
digests_for old files = digest_jobs (map file_entry_of old) (map taken_of files)

-- the last are all jobs of the three lists before, one after another
abbrev pub AreJobsOf : List rust_job.Job → List rust_job.Job → List rust_job.Job → List rust_job.Job → Type 0
AreJobsOf singles full last jobs = map job_of jobs ≡ map job_of singles ++ map job_of full ++ map job_of last

-- the plan has the choices of the layout, as many single files, and its jobs
abbrev pub HasChoicesOf : Layout → BackupPlan → Type 0
HasChoicesOf l p = p.choices.items ≡ l.choices

abbrev pub HasSinglesOf : Layout → BackupPlan → Type 0
HasSinglesOf l p = p.singles ≡ length l.singles

abbrev pub HasJobsOf : Layout → BackupPlan → Type 0
HasJobsOf l p = map job_of p.jobs.items ≡ jobs_of l

-- the listing has the files of these nodes more
abbrev pub AddsFiles : List ListedNode → Listing → Listing → Type 0
AddsFiles nodes old new = taken_files new ≡ taken_files old ++ files_of nodes

-- and their folders
abbrev pub AddsFolders : List ListedNode → Listing → Listing → Type 0
AddsFolders nodes old new = taken_folders new ≡ taken_folders old ++ folders_of nodes
