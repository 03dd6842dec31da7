-- Which files of a backup are read, and what their reading leaves. Own.
use Rattle.std.specs.Prelude.{Bool, ◌≡◌, List, ◌++◌, map}
use Rattle.base_devices.specs.Links.{LinkState}
use Rattle.base_devices.specs.States.{DataFolderState}
use Rattle.base_model.specs.Values.{FileEntry, file_entry_of}
use Rattle.base_model.specs.declared.files.FileEntry as rust_file
use Rattle.worker_protocol.specs.Frames.{Job}
use Rattle.worker_protocol.specs.Views.{job_of}
use Rattle.worker_pool.specs.Pools.{links_in}
use Rattle.worker_pool.specs.declared.pool.Pool.{Pool}
use Rattle.restore_steps.specs.Sources.{reading}
use Rattle.restore_make.specs.declared.fault.FillFault.{FillFault}
use Rattle.restore_make.specs.declared.restore_plan.Planned.{Planned}
use Rattle.restore_make.specs.declared.restore_plan.Selection.{Selection}
use Rattle.restore_make.specs.Options.{recovery_of}
use Rattle.restore_make.specs.Kept.{marked}
use Rattle.restore_make.specs.Entries.{Want, read_one, reads_of, want_of, want_in, Fills}
use Rattle.restore_make.specs.Listed.{AreHoused}
use Rattle.restore_make.specs.Faults.{FillFails}

-- the entries of a selection
abbrev pub selected : Selection → List FileEntry
selected s = reads_of (recovery_of s.recovery) (marked (map file_entry_of s.files.now) s.marks.now)

-- their jobs, and what is requested of their files
abbrev pub selected_jobs : Selection → List Job
selected_jobs s = map (reading s.stanza.now s.own.now) (selected s)

abbrev pub selected_wants : Selection → List Want
selected_wants s = map want_of (selected s)

-- the same for one entry with its mark
abbrev pub one_job : Selection → rust_file.FileEntry → Bool → List Job
one_job s file kept =
    map (reading s.stanza.now s.own.now) (read_one (recovery_of s.recovery) (file_entry_of file, kept))

abbrev pub one_want : Selection → rust_file.FileEntry → Bool → List Want
one_want s file kept = map want_of (read_one (recovery_of s.recovery) (file_entry_of file, kept))

-- these jobs were added to the plan
abbrev pub AddsJobs : List Job → Planned → Planned → Type 0
AddsJobs jobs old new = map job_of new.jobs.items ≡ map job_of old.jobs.items ++ jobs

-- and these files
abbrev pub AddsWants : List Want → Planned → Planned → Type 0
AddsWants wants old new = map want_in new.wanted.items ≡ map want_in old.wanted.items ++ wants

-- the selected files were written
abbrev pub FillsSelected : {L S T : Type 0} → Selection → (L → LinkState) → Pool L S → (T → DataFolderState) → T → T
    → Type 0
FillsSelected s of pool state old new =
    Fills s.stanza.now s.own.now (links_in of pool) (selected s) (state old).nodes (state new).nodes

-- where the files have their folders, no call is faulty
abbrev pub ProperWhereHoused : Selection → DataFolderState → DataFolderState → Type 0
ProperWhereHoused s old new = AreHoused (map file_entry_of s.files.now) old.nodes
    → new.faulty_calls ≡ old.faulty_calls

-- why they weren't
abbrev pub FailsToFill : {L S T : Type 0} → Selection → (L → LinkState) → Pool L S → Pool L S → (T → DataFolderState) → T
    → T → FillFault → Type 0
FailsToFill s of old new state tree tree_new e =
    FillFails e s.stanza.now s.own.now (map file_entry_of s.files.now) (links_in of old) (links_in of new) old.lost.items
    new.lost.items (state tree).faults (state tree_new).faults
