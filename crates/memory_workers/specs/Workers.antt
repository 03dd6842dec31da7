-- What a worker in memory answers, and what a link to it counts and reports. Own.
use Rattle.std.specs.Prelude.{◌≡◌, ◌==◌, ℕ, Bool, true, false, List, [], ◌∷◌, ◌++◌, length, Option, Some, None, Result, Ok, Err, IsSomeAnd, if◌then◌else◌}
use Rattle.base_devices.specs.Content.{Content}
use Rattle.base_devices.specs.Links.{LinkState, Modelled}
use Rattle.base_model.specs.Text.{Text}
use Rattle.memory_devices.specs.Agrees.{bytes_at}
use Rattle.worker_protocol.specs.declared.frames.fault.FrameFault.{FrameFault}
use Rattle.worker_protocol.specs.Frames.{Roots, Job, Frame, FitsRoots, FitsJob, spell}
use Rattle.worker_protocol.specs.Frames.Frame.{Setup, Task, Part, End, Vanished, Unread}
use Rattle.worker_protocol.specs.Reading.{frame_at}
use Rattle.worker_protocol.specs.Replies.{reply}
use Rattle.worker_pool.specs.Reads.{Reads}
use Rattle.memory_workers.specs.declared.worker.SureFiles.{SureFiles}
use Rattle.memory_workers.specs.declared.worker.Worker.{Worker}
use Rattle.memory_workers.specs.declared.mem.MemLink.{MemLink}
use Rattle.memory_workers.specs.Raw as raw

-- the job of a frame, where it is one
abbrev pub task_of : Frame → Option Job
task_of (Setup r) = None
task_of (Task j) = Some j
task_of (Part bytes) = None
task_of (End n sum) = None
task_of Vanished = None
task_of Unread = None

-- the job that was read, where all of the bytes were
abbrev pub whole_task : ℕ → Result (Frame × ℕ) FrameFault → Option Job
whole_task size (Ok x) = if x.1 == size then task_of x.0 else None
whole_task size (Err e) = None

-- the job whose frame the bytes exactly are
abbrev pub job_in : Text → Option Job
job_in bytes = whole_task (length bytes) (frame_at bytes)

-- the bytes are the frame of this job, which keeps the rules
pub record IsJobFrame (bytes : Text) (j : Job) : Type 0 where
  pub fits : FitsJob j
  pub spelled : bytes ≡ spell (Task j)
  pub read : job_in bytes ≡ Some j

-- what is left of an input is a setup that keeps the rules, and then these bytes
pub record IsTalk (bytes : Text) (left : Option Text) : Type 0 where
  pub roots : Roots
  pub fits : FitsRoots roots
  pub is : left ≡ Some (spell (Setup roots) ++ bytes)

-- a worker's answer: nothing where it was sent no job
abbrev pub answer_to : Content → Content → Option Job → Text
answer_to tree repo None = []
answer_to tree repo (Some j) = reply j tree repo

-- the answer of a worker whose roots hold these files
abbrev pub answer : Content → Content → Text → Text
answer tree repo bytes = answer_to tree repo (job_in bytes)

abbrev pub files_in : SureFiles → Content
files_in f = bytes_at f.files.names

abbrev pub answer_of : Worker → Text → Text
answer_of w = answer (files_in w.tree) (files_in w.repo)

-- ---- the link

-- no call is to fail
abbrev pub is_steady : List ℕ → Bool
is_steady [] = true
is_steady (n ∷ ns) = false

-- what a link reports that has given all bytes so far, where these are the numbers of the calls that are to fail
abbrev pub known_first : Content → Content → List ℕ → Modelled
known_first tree repo fail = record { answer = answer tree repo; pending = []; steady = is_steady fail }

abbrev pub known_of : MemLink → Modelled
known_of l = record {
  answer = answer_of l.worker;
  pending = raw.rest_of l.raw;
  steady = is_steady l.raw.failing.fail.items;
}

abbrev pub state_of : MemLink → LinkState
state_of l = record (raw.state_of l.raw) { known = Some (known_of l) }

-- nothing was sent over the link, whose worker's roots hold these files, and these calls are to fail
abbrev pub IsFirst : Content → Content → List ℕ → MemLink → Type 0
IsFirst tree repo fail l = state_of l
    ≡ record { faults = 0; jobs = 0; reads = 0; given = []; known = Some (known_first tree repo fail) }

-- the link reads these files
abbrev pub ReadsFiles : Content → Content → MemLink → Type 0
ReadsFiles tree repo l = IsSomeAnd (state_of l).known (Reads tree repo)
