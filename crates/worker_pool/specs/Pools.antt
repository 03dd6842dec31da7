-- The workers of a command, before and after a call. Own.
use Rattle.std.specs.Prelude.{ℕ, List, map, Result, IfErr}
use Rattle.base_devices.specs.Links.{LinkState}
use Rattle.base_model.specs.Text.{Text}
use Rattle.worker_protocol.specs.declared.frames.frames.Job as rust_job
use Rattle.worker_protocol.specs.Frames.{Job}
use Rattle.worker_protocol.specs.PartSinkState.{PartSinkState}
use Rattle.worker_protocol.specs.Views.{job_of}
use Rattle.worker_pool.specs.declared.dispatch.fault.DispatchFault.{DispatchFault}
use Rattle.worker_pool.specs.declared.pool.Pool.{Pool}
use Rattle.worker_pool.specs.Counts.{ReadsRise}
use Rattle.worker_pool.specs.Left.{IsLeft}
use Rattle.worker_pool.specs.Payloads.{AllByFile}
use Rattle.worker_pool.specs.Run.{AllDone, Left, AddsLosses, JobsFault}
use Rattle.worker_pool.specs.Setups.{Kept, SetupFault}

-- the links of a pool
abbrev pub links_in : {L S : Type 0} → (L → LinkState) → Pool L S → List LinkState
links_in of pool = map of pool.links.items

-- of the former links some are left and ready, and each of the others has its entry
abbrev pub LeavesLinks : {L S : Type 0} → (L → LinkState) → Pool L S → Pool L S → Type 0
LeavesLinks of old new = IsLeft (links_in of old) (links_in of new) old.lost.items new.lost.items

-- the same after these jobs
abbrev pub LeavesLinksAfter : {L S : Type 0} → List Job → (L → LinkState) → Pool L S → Pool L S → Type 0
LeavesLinksAfter jobs of old new = Left jobs (links_in of old) old.lost.items new.lost.items (links_in of new)

-- each later entry is a loss
abbrev pub ReportsLosses : {L S : Type 0} → List Job → (L → LinkState) → Pool L S → Pool L S → Type 0
ReportsLosses jobs of old new = AddsLosses jobs (links_in of old) old.lost.items new.lost.items

-- the counts of read jobs rose by these jobs
abbrev pub PoolReadsRise : {L S : Type 0} → List Job → (L → LinkState) → Pool L S → Pool L S → Type 0
PoolReadsRise jobs of old new = ReadsRise jobs (links_in of old) (links_in of new)

-- why the jobs weren't done, where the keeper's count of faults went from the one number to the other
abbrev pub JobsEndEarly : {L S : Type 0} → List Job → (L → LinkState) → Pool L S → Pool L S → (before now : ℕ)
    → DispatchFault → Type 0
JobsEndEarly jobs of old new before now e =
    JobsFault jobs e (links_in of old) old.lost.items new.lost.items before now (links_in of new)

-- each job has ended, with what some link of the pool read
abbrev pub JobsDone : {L S : Type 0} → List Job → (L → LinkState) → Pool L S → PartSinkState → Type 0
JobsDone jobs of pool kept = AllDone jobs (links_in of pool) kept.kept

-- where all links of the pool read the same files, each item of each job ended as its file is
abbrev pub JobsByFile : {L S : Type 0} → List Job → (L → LinkState) → Pool L S → PartSinkState → Type 0
JobsByFile jobs of pool kept = AllByFile jobs (links_in of pool) kept.kept

-- why the jobs weren't done: the state of a link, what a keeper holds, and the jobs; then the pool, the keeper and its
-- device, before and after
abbrev pub EndsEarly : {L S K W : Type 0} → Result (Unit {0}) DispatchFault → (L → LinkState) → (K → W → PartSinkState)
    → List rust_job.Job → Pool L S → K → W → Pool L S → K → W → Type 0
EndsEarly result of kept jobs old k v new l w =
    IfErr result (JobsEndEarly (map job_of jobs) of old new (kept k v).faults (kept l w).faults)

-- the link is at the end of the pool's, or the call on it failed and it is reported with this place
abbrev pub KeepsOrReports : {L S : Type 0} → Text → ℕ → L → (L → LinkState) → Pool L S → Pool L S → Type 0
KeepsOrReports frame place link of old new =
    Kept frame place (of link) (links_in of old) (links_in of new) old.lost.items new.lost.items

-- why the workers weren't given their roots
abbrev pub SetupEndsEarly : {L S : Type 0} → (L → LinkState) → Pool L S → Pool L S → DispatchFault → Type 0
SetupEndsEarly of old new e = SetupFault e (links_in of old) old.lost.items new.lost.items
