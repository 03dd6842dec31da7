-- What a worker does from its setup to the end of its input, where its objects report their content (own).
use Rattle.std.specs.Prelude.{◌≡◌, ◌⊎◌, ◌<◌, ◌≤◌, ◌+◌, ℕ, suc, false, List, [], ◌∷◌, ◌++◌, length, map, Option, Some, None, Result, Ok, Err}
use Rattle.std.specs.List.{flat_map, AllByRecursion}
use Rattle.base_devices.specs.Cause.{Rises}
use Rattle.base_devices.specs.Content.{Content}
use Rattle.base_model.specs.Text.{Text}
use Rattle.worker_protocol.specs.declared.frames.frames.Root.{Root}
use Rattle.worker_process.specs.declared.job_reply.Opened.{Opened}
use Rattle.worker_process.specs.declared.serve_fault.ServeFault.{ServeFault}
use Rattle.worker_process.specs.declared.serve_fault.ServeFault.TheVariants.{TooMany, OutputStream, NoMemory}
use Rattle.worker_protocol.specs.Frames.{Roots, Job, Frame, FitsFrame, spell}
use Rattle.worker_protocol.specs.Frames.Frame.{Setup, Task}
use Rattle.worker_process.specs.Writing.{IsWritten, IsPrefixWritten, IsOutputFault}
use Rattle.worker_process.specs.Receiving.{StopsAt, IsFullyReceived}
use Rattle.worker_process.specs.Answers.{of_root, AnswersJob, KnownJob}

-- what was received: nothing, or the setup and then jobs
pub data Talk : Type 0 where
  Silent : Talk
  Received : Roots → List Job → Talk

abbrev pub frames_received : Talk → List Frame
frames_received Silent = []
frames_received (Received roots jobs) = Setup roots ∷ map Task jobs

abbrev pub jobs_received : Talk → List Job
jobs_received Silent = []
jobs_received (Received roots jobs) = jobs

-- the bytes of the talk
abbrev pub bytes_received : Talk → Text
bytes_received talk = flat_map spell (frames_received talk)

-- the type of the frame that comes next, `S` or `J`
abbrev pub next_letter : Talk → ℕ
next_letter Silent = 83
next_letter (Received roots jobs) = 74

-- a worker takes this many frames
unfoldable pub frame_limit : ℕ
frame_limit = 4294967295

-- the counts of faults of the two roots
pub record Counts : Type 0 where
  pub tree : ℕ
  pub repo : ℕ

abbrev pub counts : ℕ → ℕ → Counts
counts tree repo = record { tree = tree; repo = repo }

abbrev pub count_of : Root → Counts → ℕ
count_of root counts = of_root root counts.tree counts.repo

-- no count fell
pub record IsLater (old new : Counts) : Type 0 where
  pub tree : old.tree ≤ new.tree
  pub repo : old.repo ≤ new.repo

-- the root's count rose
abbrev pub Rose : Counts → Counts → Root → Type 0
Rose old new root = Rises (count_of root old) (count_of root new)

-- Jobs were answered one after the other, and the counts of faults went up meanwhile. An answer that breaks off at an
-- item has a rise of its own, unless the item's root couldn't be opened.
abbrev pub AnswersAll : Content → Content → (Root → Type 0) → Counts → Counts → List Job → List Frame → Type 0
AnswersAll tree repo Closed old new [] frames = (frames ≡ []) × IsLater old new
AnswersAll tree repo Closed old new (job ∷ jobs) frames =
    (mid : Counts) × (one : List Frame) × (others : List Frame) × (frames ≡ one ++ others) × IsLater old mid
    × AnswersJob job tree repo (λ root. Closed root ⊎ Rose old mid root) one
    × AnswersAll tree repo Closed mid new jobs others

-- The input begins with this talk, and the jobs are answered so. The roots' counts of faults were other ones once the
-- roots were opened.
pub record Talked (tree repo : Content) (input : Text) (entry exit : Counts) (talk : Talk) (rest : Text)
    (answers : List Frame) : Type 0 where
  pub received_reply : input ≡ bytes_received talk ++ rest
  pub fits : AllByRecursion FitsFrame (frames_received talk)
  pub opened : Counts
  pub later : IsLater entry opened
  pub answered : AnswersAll tree repo (Rose entry opened) opened exit (jobs_received talk) answers

-- why it ended there, where this was left of the input
abbrev pub EndsAt : Talk → Text → Result ℕ ServeFault → Type 0
EndsAt talk rest (Ok jobs) = (rest ≡ []) × (jobs ≡ length (jobs_received talk))
EndsAt talk rest (Err (TooMany limit)) = (0 < length rest) × (limit ≡ frame_limit)
    × (limit ≡ length (frames_received talk))
EndsAt talk rest (Err OutputStream) = Unit {0}
EndsAt talk rest (Err fault) = StopsAt (next_letter talk) (length (bytes_received talk)) rest fault

-- The answers were written; where the output failed, or memory did, a first part of their bytes.
abbrev pub WroteAnswers : Result ℕ ServeFault → Option Text → Text → Option Text → Type 0
WroteAnswers (Err OutputStream) old text new = IsPrefixWritten old text new
WroteAnswers (Err NoMemory) old text new = IsPrefixWritten old text new
WroteAnswers other old text new = IsWritten old text new

-- where a job was received, each root was opened at its place in the setup, or failed to open
abbrev pub OpenedAt : Talk → Counts → Counts → Text → Text → Type 0
OpenedAt (Received roots (job ∷ jobs)) entry exit tree repo = ((tree ≡ roots.tree) ⊎ Rises entry.tree exit.tree)
    × ((repo ≡ roots.repo) ⊎ Rises entry.repo exit.repo)
OpenedAt other entry exit tree repo = Unit {0}

-- the result of serving
pub record Served (tree repo : Content) (input : Text) (entry exit : Counts) (tree_place repo_place : Text)
    (result : Result ℕ ServeFault) (old new : Option Text) : Type 0 where
  pub talk : Talk
  pub rest : Text
  pub answers : List Frame
  pub talked : Talked tree repo input entry exit talk rest answers
  pub ends : EndsAt talk rest result
  pub wrote : WroteAnswers result old (flat_map spell answers) new
  pub places : OpenedAt talk entry exit tree_place repo_place

-- The result of serving the next job, where this many bytes came before what is left of the input: nothing more where
-- it is over; else the job was received and answered. At an `Err` none was received, or a first part of its answer was
-- written.
abbrev pub ServedNext : Content → Content → (Root → Type 0) → ℕ → Text → Result (Option ℕ) ServeFault → Option Text
    → Option Text → Option Text → Type 0
ServedNext tree repo Failed start rest (Ok None) left old new = (rest ≡ []) × (left ≡ Some []) × (new ≡ old)
ServedNext tree repo Failed start rest (Ok (Some size)) left old new = (job : Job) × IsFullyReceived (Task job) size
    rest left
    × KnownJob job tree repo Failed (Ok tt) old new
ServedNext tree repo Failed start rest (Err fault) left old new =
    (StopsAt 74 start rest fault × (new ≡ old))
    ⊎ ((job : Job) × (size : ℕ) × IsFullyReceived (Task job) size rest left × KnownJob job tree repo Failed (Err fault)
    old new
    × IsOutputFault fault)

-- why serving jobs ended, where this many were received and this many bytes came before what was left of the input
abbrev pub JobsEnd : ℕ → ℕ → Text → Result ℕ ServeFault → Type 0
JobsEnd count start rest (Ok jobs) = (rest ≡ []) × (jobs ≡ count)
JobsEnd count start rest (Err (TooMany limit)) = (0 < length rest) × (limit ≡ frame_limit) × (limit ≡ suc count)
JobsEnd count start rest (Err OutputStream) = Unit {0}
JobsEnd count start rest (Err fault) = StopsAt 74 start rest fault

-- the result of serving all the jobs that were left of the input
pub record ServedJobs (tree repo : Content) (Closed : Root → Type 0) (entry exit : Counts) (start : ℕ) (input : Text)
    (result : Result ℕ ServeFault) (old new : Option Text) : Type 0 where
  pub jobs : List Job
  pub rest : Text
  pub received_reply : input ≡ flat_map spell (map Task jobs) ++ rest
  pub fits : AllByRecursion FitsFrame (map Task jobs)
  pub answers : List Frame
  pub answered : AnswersAll tree repo Closed entry exit jobs answers
  pub ends : JobsEnd (length jobs) (start + length (flat_map spell (map Task jobs))) rest result
  pub wrote : WroteAnswers result old (flat_map spell answers) new

-- the roots that weren't opened
abbrev pub NotOpened : Opened → Root → Type 0
NotOpened opened root = of_root root opened.tree opened.repo ≡ false
