-- What a run of read jobs leaves, over the pool and the data folder that it is given. Own.
use Rattle.std.specs.Prelude.{List, map}
use Rattle.base_devices.specs.Links.{LinkState}
use Rattle.base_devices.specs.States.{DataFolderState}
use Rattle.worker_protocol.specs.Views.{job_of}
use Rattle.worker_pool.specs.Pools.{links_in, JobsEndEarly}
use Rattle.worker_pool.specs.declared.pool.Pool.{Pool}
use Rattle.worker_pool.specs.declared.dispatch.fault.DispatchFault.{DispatchFault}
use Rattle.restore_steps.specs.declared.contents.files.Filed.{Filed}
use Rattle.restore_make.specs.declared.fault.FillFault.{FillFault}
use Rattle.restore_make.specs.declared.file_jobs.FileJobs.{FileJobs}
use Rattle.restore_make.specs.Written.{AllWritten, AllFetched}
use Rattle.restore_make.specs.Faults.{WriteFails}

-- each file's item ended so, and the file is written where it ended as requested
abbrev pub WritesAll : {L S : Type 0} → FileJobs → (L → LinkState) → Pool L S → DataFolderState → List Filed → Type 0
WritesAll asked of pool tree files =
    AllWritten (links_in of pool) tree.nodes (map job_of asked.jobs.now) asked.wanted.now files

-- each file is there as requested
abbrev pub FetchesAll : {L S : Type 0} → FileJobs → (L → LinkState) → Pool L S → DataFolderState → Type 0
FetchesAll asked of pool tree = AllFetched (links_in of pool) tree.nodes (map job_of asked.jobs.now) asked.wanted.now

-- why the jobs weren't done
abbrev pub RunEndsEarly : {L S T : Type 0} → FileJobs → (L → LinkState) → Pool L S → Pool L S → (T → DataFolderState) → T
    → T → DispatchFault → Type 0
RunEndsEarly asked of old new state tree tree_new =
    JobsEndEarly (map job_of asked.jobs.now) of old new (state tree).faults (state tree_new).faults

-- why the files weren't written
abbrev pub FailsToWrite : {L S T : Type 0} → FileJobs → (L → LinkState) → Pool L S → Pool L S → (T → DataFolderState) → T
    → T → FillFault → Type 0
FailsToWrite asked of old new state tree tree_new e =
    WriteFails e (map job_of asked.jobs.now) asked.wanted.now (links_in of old) (links_in of new) old.lost.items
    new.lost.items (state tree).faults (state tree_new).faults
