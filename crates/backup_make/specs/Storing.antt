-- What a backup stores by a pool of workers, and why it stores no more. Own.
use Rattle.std.specs.Prelude.{◌≡◌, ℕ, List, map, None, Some, Result, slice_get, Vec}
use Rattle.std.specs.declared.alloc.Global.{Global}
use Rattle.base_devices.specs.Links.{LinkState}
use Rattle.base_devices.specs.States.{ClockState, DiskState, ShowsSecond}
use Rattle.base_model.specs.Text.{Text}
use Rattle.worker_protocol.specs.declared.frames.frames.Job as rust_job
use Rattle.worker_protocol.specs.Frames.{Item, Job}
use Rattle.worker_protocol.specs.Views.{job_of}
use Rattle.worker_pool.specs.declared.pool.Pool.{Pool}
use Rattle.worker_pool.specs.Payloads.{AllByFile}
use Rattle.worker_pool.specs.Pools.{links_in}
use Rattle.worker_pool.specs.Run.{AllDone}
use Rattle.backup_sink.specs.declared.keeper.BackupKeeper.{BackupKeeper}
use Rattle.backup_sink.specs.declared.keeper.EndedItem.{EndedItem}
use Rattle.backup_sink.specs.Keeper.{names_of, stored_in}
use Rattle.backup_sink.specs.Placed.{IsPlacedIn}
use Rattle.backup_make.specs.declared.draft.Draft.{Draft}
use Rattle.backup_make.specs.declared.draft_jobs.Fetched.{Fetched}
use Rattle.backup_make.specs.declared.fault.MakeFault.{MakeFault}
use Rattle.backup_make.specs.Draft.{jobs_in}
use Rattle.backup_make.specs.Faults.{MakeFails, StoreFails}
use Rattle.backup_make.specs.Made.{Outcome, StopsBy}
use Rattle.backup_make.specs.Staged.{IsStaged, fetched_ends}
use Rattle.backup_make.specs.Stored.{Stored}

-- the path is that of the item of this number of the job
abbrev pub IsPathAt : Job → ℕ → Text → Type 0
IsPathAt job item path = (i : Item) → slice_get job.items item ≡ Some i → i.path ≡ path

-- ---- by jobs

-- what the keeper holds lies at its places, in what the disk holds and in what a crash leaves
abbrev pub HasPlaced : DiskState → BackupKeeper → Type 0
HasPlaced disk k = IsPlacedIn (names_of k) (stored_in k disk.view.now) disk.view

-- the pool's links did the jobs, and the keeper holds the result of them
abbrev pub HasDone : {L S : Type 0} → List rust_job.Job → (L → LinkState) → Pool L S → DiskState → BackupKeeper
    → Type 0
HasDone jobs of pool disk k = AllDone (map job_of jobs) (links_in of pool) (stored_in k disk.view.now)

-- where all links read the same files, each item ended as its file is
abbrev pub HasPayloads : {L S : Type 0} → List rust_job.Job → (L → LinkState) → Pool L S → DiskState → BackupKeeper
    → Type 0
HasPayloads jobs of pool disk k = AllByFile (map job_of jobs) (links_in of pool) (stored_in k disk.view.now)

-- why jobs weren't stored, by the pool and the disk before and after
abbrev pub StoringFails : {L S D : Type 0} → List rust_job.Job → (L → LinkState) → Pool L S → Pool L S
    → (D → DiskState) → D → D → MakeFault → Type 0
StoringFails jobs of old new state before after fault =
    StoreFails fault (map job_of jobs) (links_in of old) (links_in of new) old.lost.items new.lost.items
    (state before).faults (state after).faults

-- ---- by a draft

-- the pool's links did the draft's jobs, of which each item ended so
abbrev pub StoresEnds : {L S : Type 0} → Draft → (L → LinkState) → Pool L S → DiskState
    → Vec (Vec EndedItem Global) Global → Type 0
StoresEnds d of pool disk ends =
    Stored d (links_in of pool) (map (λ (v : Vec EndedItem Global). v.items) ends.items) disk.view.now

-- what they read for it lies in its label's folder, durably
abbrev pub StagesDraft : {L S : Type 0} → Draft → (L → LinkState) → Pool L S → DiskState → Fetched → Type 0
StagesDraft d of pool disk f = IsStaged d None (links_in of pool) (fetched_ends f) disk.view

-- why its jobs weren't stored
abbrev pub FetchingFails : {L S D : Type 0} → Draft → (L → LinkState) → Pool L S → Pool L S → (D → DiskState) → D → D
    → MakeFault → Type 0
FetchingFails d of old new state before after fault =
    StoreFails fault (jobs_in d) (links_in of old) (links_in of new) old.lost.items new.lost.items
    (state before).faults (state after).faults

-- at Ok its backup is listed, of what the pool's links read, with a second of its stop that the clock showed; else the
-- list stays, or after some faults it may be
abbrev pub MakesOutcome : {L S D C : Type 0} → Result (Unit {0}) MakeFault → Draft → (L → LinkState) → Pool L S
    → (D → DiskState) → D → D → (C → ClockState) → C → C → Type 0
MakesOutcome result d of pool state before after clock first last =
    (made : Outcome result d (links_in of pool) (state before).view (state after).view)
    × StopsBy (λ stop. ShowsSecond stop (clock first) (clock last)) result d None (links_in of pool)
    (state before).view (state after).view made

-- why it isn't made, by the pool, the disk and the clock before and after
abbrev pub MakingFails : {L S D C : Type 0} → Draft → (L → LinkState) → Pool L S → Pool L S → (D → DiskState) → D → D
    → (C → ClockState) → C → C → MakeFault → Type 0
MakingFails d of old new state before after clock first last fault =
    MakeFails fault d (links_in of old) (links_in of new) old.lost.items new.lost.items
    (state before).faults (state after).faults (clock first).faults (clock last).faults
