-- Which link has which job, and what changes that. Own.
use Rattle.std.specs.Prelude.{ℕ, Bool, true, false, ◌≡◌, ◌^◌, ◌<◌, List, length, Some, slice_get, slice_set, replicate, ◌⊎◌, if◌then◌else◌}
use Rattle.worker_pool.specs.declared.jobs.JobPlace.{JobPlace}
use Rattle.worker_pool.specs.declared.jobs.JobPlace.TheVariants.{Waiting, With, Ended}
use Rattle.worker_pool.specs.declared.jobs.LinkPlace.{LinkPlace}
use Rattle.worker_pool.specs.declared.jobs.LinkPlace.TheVariants.{Idle, Busy, Lost}

-- where each job and each link is
pub record Dispatch : Type 0 where
  pub jobs : List JobPlace
  pub links : List LinkPlace

-- all jobs wait, and all links are idle
abbrev pub start : ℕ → ℕ → Dispatch
start jobs links = record { jobs = replicate jobs Waiting; links = replicate links Idle }

-- the job waits
abbrev pub Waits : Dispatch → ℕ → Type 0
Waits s job = slice_get s.jobs job ≡ Some Waiting

-- the link is idle
abbrev pub IsIdle : Dispatch → ℕ → Type 0
IsIdle s link = slice_get s.links link ≡ Some Idle

-- the link has this job
abbrev pub Has : Dispatch → ℕ → ℕ → Type 0
Has s link job = slice_get s.links link ≡ Some (Busy job)

-- the lowest job that waits
pub record IsLowest (s : Dispatch) (job : ℕ) : Type 0 where
  pub waits : Waits s job
  pub below : (k : ℕ) → k < job → slice_get s.jobs k ≡ Some Waiting → ⊥

-- what the events leave
abbrev pub after_give : Dispatch → ℕ → ℕ → Dispatch
after_give s link job = record { jobs = slice_set s.jobs job (With link); links = slice_set s.links link (Busy job) }

-- the last frame of a reply ends the job
abbrev pub after_end : Dispatch → ℕ → ℕ → Dispatch
after_end s link job = record { jobs = slice_set s.jobs job Ended; links = slice_set s.links link Idle }

-- a frame of a reply, which may be the last, leaves this
abbrev pub after_frame : Bool → Dispatch → ℕ → ℕ → Dispatch
after_frame ended s link job = if ended then after_end s link job else s

-- the job of a lost link waits again
abbrev pub after_drop : Dispatch → ℕ → ℕ → Dispatch
after_drop s link job = record { jobs = slice_set s.jobs job Waiting; links = slice_set s.links link Lost }

-- an idle link is lost
abbrev pub after_drop_idle : Dispatch → ℕ → Dispatch
after_drop_idle s link = record { jobs = s.jobs; links = slice_set s.links link Lost }

-- the link has a job
abbrev pub IsBusy : Dispatch → ℕ → Type 0
IsBusy s link = (job : ℕ) × (slice_get s.links link ≡ Some (Busy job))

-- the link is idle or busy
abbrev pub IsLive : Dispatch → ℕ → Type 0
IsLive s link = IsIdle s link ⊎ IsBusy s link

-- an idle link is handed a job; a frame comes from a busy one, which may be the last of its reply; a link is lost
pub data Event : Type 0 where
  Give : ℕ → Event
  Receive : ℕ → Bool → Event
  DropWorker : ℕ → Event

-- what an event makes of a state
abbrev pub Step : Dispatch → Event → Dispatch → Type 0
Step old (Give link) new = IsIdle old link × ((job : ℕ) × IsLowest old job × (new ≡ after_give old link job))
Step old (Receive link true) new = (job : ℕ) × Has old link job × (new ≡ after_end old link job)
Step old (Receive link false) new = (job : ℕ) × Has old link job × (new ≡ old)
Step old (DropWorker link) new = ((job : ℕ) × Has old link job × (new ≡ after_drop old link job))
    ⊎ (IsIdle old link × (new ≡ after_drop_idle old link))

-- no job waits
abbrev pub NoneWaits : Dispatch → Type 0
NoneWaits s = (k : ℕ) → Waits s k → ⊥

-- no job is with a link
abbrev pub NoneIsWith : Dispatch → Type 0
NoneIsWith s = (job link : ℕ) → slice_get s.jobs job ≡ Some (With link) → ⊥

-- this job waits, and none below it does
abbrev pub IsFirst : List JobPlace → ℕ → Type 0
IsFirst jobs job = (slice_get jobs job ≡ Some Waiting) × ((k : ℕ) → k < job → slice_get jobs k ≡ Some Waiting → ⊥)

-- the link of this number has this job
abbrev pub HasJob : List LinkPlace → ℕ → ℕ → Type 0
HasJob links link job = slice_get links link ≡ Some (Busy job)

-- the number is one of these
abbrev pub IsAmong : List ℕ → ℕ → Type 0
IsAmong numbers n = (k : ℕ) × (slice_get numbers k ≡ Some n)

-- each job has ended
abbrev pub AllEnded : List JobPlace → Type 0
AllEnded jobs = (k : ℕ) → k < length jobs → slice_get jobs k ≡ Some Ended

-- each link has the job that is with it, and no other does
pub record IsDispatch (jobs : List JobPlace) (links : List LinkPlace) : Type 0 where
  pub to_job : (link job : ℕ) → slice_get links link ≡ Some (Busy job) → slice_get jobs job ≡ Some (With link)
  pub to_link : (link job : ℕ) → slice_get jobs job ≡ Some (With link) → slice_get links link ≡ Some (Busy job)

-- no job below the first waits, and numbers have 32 bits
pub record IsJobTable (jobs : List JobPlace) (links : List LinkPlace) (first : ℕ) : Type 0 where
  pub pairs : IsDispatch jobs links
  pub low : (k : ℕ) → k < first → slice_get jobs k ≡ Some Waiting → ⊥
  pub few : length jobs < 2 ^ 32
  pub few_links : length links < 2 ^ 32
