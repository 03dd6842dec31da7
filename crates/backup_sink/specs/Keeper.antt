-- What a backup's keeper is for, and what it and its disk hold. Own.
use Rattle.std.specs.Prelude.{◌≡◌, ◌≤◌, ◌+◌, ℕ, List, map, string_bytes, Option, Some, slice_get}
use Rattle.std.proofs.Common.{refl, ◌∙◌, ap}
use Rattle.base_devices.specs.Content.{Name, Content}
use Rattle.base_devices.specs.States.{DiskState}
use Rattle.worker_protocol.specs.Frames.{Item, Job}
use Rattle.worker_protocol.specs.Views.{job_of}
use Rattle.worker_protocol.specs.PartSinkState.{JobItems, PartSinkState}
use Rattle.backup_sink.specs.declared.keeper.BackupKeeper.{BackupKeeper}
use Rattle.backup_sink.specs.Keeping.{Progress, progress_of, keeps, is_own}
use Rattle.backup_sink.specs.Relation.{Later, later_same, later_on}

-- the folder of the label
abbrev pub folder_of : BackupKeeper → Name
folder_of k = k.folder.now

-- the jobs
abbrev pub jobs_of : BackupKeeper → List Job
jobs_of k = map job_of k.jobs.now

-- the name at which each job's bytes are kept
abbrev pub names_of : BackupKeeper → List Name
names_of k = map string_bytes k.names.now

-- how far each has come
abbrev pub progress_in : BackupKeeper → List Progress
progress_in k = map progress_of k.states.items

-- how often a call of the disk failed
abbrev pub faults_of : BackupKeeper → ℕ
faults_of k = k.faults

-- what is held of each job, over a disk that holds this
abbrev pub stored_in : BackupKeeper → Option Content → List JobItems
stored_in k now = keeps (names_of k) (progress_in k) now

-- what it holds, over such a disk
abbrev pub state_of : BackupKeeper → Option Content → PartSinkState
state_of k now = record { faults = faults_of k; jobs = jobs_of k; kept = stored_in k now }

-- the job's item has room for this many bytes more than were received of the next
pub record HasSpace (k : BackupKeeper) (job item more : ℕ) : Type 0 where
  pub asked : Job
  pub asked_is : slice_get (jobs_of k) job ≡ Some asked
  pub next : Item
  pub next_is : slice_get asked.items item ≡ Some next
  pub progress : Progress
  pub progress_is : slice_get (progress_in k) job ≡ Some progress
  pub room : progress.count + more ≤ next.size

-- they are for the same jobs, at the same names
pub record SamePlan (old new : BackupKeeper) : Type 0 where
  pub folder : new.folder.now ≡ old.folder.now
  pub jobs : new.jobs.now ≡ old.jobs.now
  pub names : new.names.now ≡ old.names.now

-- a keeper and its disk, and what they are after some of its calls
abbrev pub KeptOn : BackupKeeper → DiskState → BackupKeeper → DiskState → Type 0
KeptOn k d k2 d2 = SamePlan k k2 × Later (is_own (folder_of k)) (faults_of k) (faults_of k2) d d2

pub kept_on_same : (k : BackupKeeper) (d : DiskState) → KeptOn k d k d
kept_on_same k d =
    (record { folder = refl; jobs = refl; names = refl }, later_same (is_own (folder_of k)) (faults_of k) d)

pub kept_on_through : (a : BackupKeeper) (u : DiskState) (b : BackupKeeper) (v : DiskState) (c : BackupKeeper)
    (w : DiskState) → KeptOn a u b v → KeptOn b v c w → KeptOn a u c w
kept_on_through a u b v c w p q = (
  record { folder = q.0.folder ∙ p.0.folder; jobs = q.0.jobs ∙ p.0.jobs; names = q.0.names ∙ p.0.names },
  later_on (ap is_own p.0.folder) p.1 q.1,
)
