-- A run of jobs over links: what holds at each moment of it. Own.
use Rattle.std.specs.Prelude.{ℕ, suc, Bool, true, false, min, ◌≡◌, ◌≢◌, ◌+◌, ◌-◌, ◌*◌, ◌^◌, ◌<◌, ◌≤◌, ◌⊎◌, List, [], ◌∷◌, ◌++◌, length, map, Option, Some, None, option_map, IfSome, IsSomeAnd, slice_get}
use Rattle.std.specs.List.{AllByRecursion}
use Rattle.base_devices.specs.Cause.{Rises}
use Rattle.base_devices.specs.Links.{LinkState, last_five}
use Rattle.worker_protocol.specs.Frames.{Item, Job, spell}
use Rattle.worker_protocol.specs.Frames.Frame.{Unread}
use Rattle.worker_protocol.specs.declared.replies.cause.LostCause.{LostCause}
use Rattle.worker_protocol.specs.declared.replies.cause.LostCause.TheVariants as causes
use Rattle.worker_protocol.specs.Takes.{HasReceived}
use Rattle.worker_protocol.specs.PartSinkState.{JobItems, PartSinkState, IsFresh}
use Rattle.worker_protocol.specs.Lists.{ChangesAt}
use Rattle.worker_pool.specs.Dispatch.{Dispatch, Waits, IsIdle, NoneWaits, AllEnded, start}
use Rattle.worker_pool.specs.declared.jobs.JobPlace.{JobPlace}
use Rattle.worker_pool.specs.declared.jobs.JobPlace.TheVariants.{Waiting, With, Ended}
use Rattle.worker_pool.specs.declared.jobs.LinkPlace.{LinkPlace}
use Rattle.worker_pool.specs.declared.jobs.LinkPlace.TheVariants.{Idle, Busy, Lost}
use Rattle.worker_pool.specs.declared.replies.receiving.Receiving.{Receiving}
use Rattle.worker_pool.specs.Receivings.{IsKnown}
use Rattle.base_devices.specs.Content.{Content}
use Rattle.worker_pool.specs.Reads.{Reads, IsSteadyWorker, UnreadBy, AllEnd}
use Rattle.worker_pool.specs.Going.{Goes, IsSame, ShowsItems, IsDrained, Blames, items_cost, job_left}
use Rattle.worker_pool.specs.Counts.{NoneFull, reads_of, sent_reads}
use Rattle.worker_pool.specs.declared.dispatch.fault.Lost.{Lost as Entry}
use Rattle.worker_pool.specs.declared.dispatch.fault.DispatchFault.{DispatchFault}
use Rattle.worker_pool.specs.declared.dispatch.fault.DispatchFault.TheVariants as faults

-- all that a run changes: which link has which job, the links that are left in their places, how far each reply was
-- received, what is held, and the lost links
pub record State : Type 0 where
  pub job_table : Dispatch
  pub slots : List (Option LinkState)
  pub receivings : List Receiving
  pub kept : PartSinkState
  pub lost : List Entry

-- the state that the values of a program represent
abbrev pub state : {A : Type 0} → (A → LinkState) → Dispatch → List (Option A) → List Receiving → PartSinkState → List
    Entry
    → State
state of job_table slots receivings kept lost =
    record {
      job_table = job_table;
      slots = map (option_map of) slots;
      receivings = receivings;
      kept = kept;
      lost = lost;
    }

-- what a run began with: its links, the links that were lost before, and whether each idle link was given a job or none
-- waited
pub record Began : Type 0 where
  pub links : List LinkState
  pub lost : List Entry
  pub all : Bool

-- one of the links that the run began with ended the job
pub record EndedBy (links : List LinkState) (job : Job) (k : JobItems) : Type 0 where
  pub link : ℕ
  pub from : LinkState
  pub is : slice_get links link ≡ Some from
  pub items : AllEnd from.known job.kind job.items k.done

-- an idle link has nothing to give
pub record Rests (b : Began) (count : ℕ) (from now : LinkState) : Type 0 where
  pub drained : IsDrained from.known now.known
  pub faults : now.faults ≡ from.faults
  pub later : min from.jobs (2 ^ 64 - 1) ≤ now.jobs
  pub sent : b.all ≡ true → length b.links ≤ count → Rises from.jobs now.jobs

-- since the link was sent its job, with as many faults as at first, this many bytes of the reply were received
pub record ReceivedSince (job : Job) (from now : LinkState) (received_reply : ℕ) : Type 0 where
  pub begun : LinkState
  pub shows : ShowsItems job.kind job.items from.known begun.known
  pub faults : begun.faults ≡ from.faults
  pub receivings : HasReceived 0 received_reply begun now

-- a busy link replies to its job
pub record Replies (jobs : List Job) (places : List JobPlace) (ks : List JobItems) (from : LinkState) (i j : ℕ)
    (h : Receiving) (now : LinkState) : Type 0 where
  pub place : slice_get places j ≡ Some (With i)
  pub job : Job
  pub job_is : slice_get jobs j ≡ Some job
  pub kept : JobItems
  pub kept_is : slice_get ks j ≡ Some kept
  pub goes : Goes from.known now.known job kept h
  pub faults : now.faults ≡ from.faults
  pub later : min from.jobs (2 ^ 64 - 1) ≤ now.jobs
  pub sent : Rises from.jobs now.jobs
  pub since : ReceivedSince job from now h.received_reply

-- how a link is by its place: the slot of a lost one is empty
abbrev pub LinkGoes : List Job → Began → List JobPlace → List JobItems → LinkState → ℕ → LinkPlace → Receiving
    → Option LinkState → Type 0
LinkGoes jobs b places ks from i Lost h None = Unit {0}
LinkGoes jobs b places ks from i Lost h (Some now) = ⊥
LinkGoes jobs b places ks from i Idle h None = ⊥
LinkGoes jobs b places ks from i Idle h (Some now) = Rests b (length jobs) from now
LinkGoes jobs b places ks from i (Busy j) h None = ⊥
LinkGoes jobs b places ks from i (Busy j) h (Some now) = Replies jobs places ks from i j h now

-- what is held of a job by its place: nothing while it waits
abbrev pub JobGoes : Began → Job → JobPlace → JobItems → Type 0
JobGoes b job Waiting k = IsFresh k
JobGoes b job (With l) k = Unit {0}
JobGoes b job Ended k = (b.all ≡ true) × EndedBy b.links job k

-- ---- lost links

-- the link was to give its reply to one of the jobs
pub record BeginsOne (jobs : List Job) (from begun : LinkState) : Type 0 where
  pub number : ℕ
  pub job : Job
  pub job_is : slice_get jobs number ≡ Some job
  pub shows : ShowsItems job.kind job.items from.known begun.known

-- The cause held of a link as it was lost. Its count of faults rose; or this many bytes of its reply to one of the jobs
-- were received, and they end or are no reply; or two sums differ.
abbrev pub HoldsOf : List Job → LostCause → LinkState → LinkState → LinkState → Type 0
HoldsOf jobs causes.Device from begun last = Rises begun.faults last.faults
HoldsOf jobs (causes.Ended at) from begun last = BeginsOne jobs from begun × HasReceived 0 at begun last
HoldsOf jobs (causes.Form at) from begun last = BeginsOne jobs from begun × HasReceived 0 at begun last
HoldsOf jobs (causes.Sum known found) from begun last = known.0 ≢ found.0

-- there are two states of the link between which it held, and up to the first it had counted no fault
pub record IsSeen (jobs : List Job) (cause : LostCause) (from : LinkState) : Type 0 where
  pub begun : LinkState
  pub last : LinkState
  pub same : IsSame from.known begun.known
  pub faults : begun.faults ≡ from.faults
  pub holds : HoldsOf jobs cause from begun last

-- The entry names a link that isn't a steady worker, with a cause that held. An honest link is lost only because a call
-- on it failed or its bytes ended.
pub record IsLoss (jobs : List Job) (links : List LinkState) (e : Entry) : Type 0 where
  pub from : LinkState
  pub is : slice_get links e.place ≡ Some from
  pub unsteady : ¬ IsSteadyWorker from.known
  pub known : IsKnown e.cause
  pub blamed : Blames e.cause from.known
  pub seen : IsSeen jobs e.cause from

-- the later entries are losses
pub record AddsLosses (jobs : List Job) (links : List LinkState) (before after : List Entry) : Type 0 where
  pub entries : List Entry
  pub is : after ≡ before ++ entries
  pub each : AllByRecursion (IsLoss jobs links) entries

-- how many links are not lost
abbrev pub live : List LinkPlace → ℕ
live [] = 0
live (Lost ∷ ls) = live ls
live (Idle ∷ ls) = suc (live ls)
live (Busy j ∷ ls) = suc (live ls)

-- the lost links are those of the later entries, each once
pub record Losses (jobs : List Job) (links : List LinkState) (before after : List Entry)
    (places : List LinkPlace) : Type 0 where
  pub entries : List Entry
  pub is : after ≡ before ++ entries
  pub each : AllByRecursion (IsLoss jobs links) entries
  pub has : (l : ℕ) → slice_get places l ≡ Some Lost
      → (k : ℕ) × (e : Entry) × (slice_get entries k ≡ Some e) × (e.place ≡ l)
  pub count : length entries + live places ≡ length places

-- ---- a run

-- how many jobs are with a link
abbrev pub withs : List JobPlace → ℕ
withs [] = 0
withs (Waiting ∷ ps) = withs ps
withs (With l ∷ ps) = suc (withs ps)
withs (Ended ∷ ps) = withs ps

-- how many links have a job
abbrev pub busies : List LinkPlace → ℕ
busies [] = 0
busies (Lost ∷ ls) = busies ls
busies (Idle ∷ ls) = busies ls
busies (Busy j ∷ ls) = suc (busies ls)

-- those that are there
abbrev pub somes : {A : Type 0} → List (Option A) → List A
somes [] = []
somes (None ∷ xs) = somes xs
somes (Some x ∷ xs) = x ∷ somes xs

-- what holds at each moment of a run
pub record Going (jobs : List Job) (b : Began) (s : State) : Type 0 where
  pub job_count : length s.job_table.jobs ≡ length jobs
  pub link_count : length s.job_table.links ≡ length s.slots
  pub receive_count : length s.receivings ≡ length s.slots
  pub start_count : length b.links ≡ length s.slots
  pub keeps : s.kept.jobs ≡ jobs
  pub even : withs s.job_table.jobs ≡ busies s.job_table.links
  pub losses : Losses jobs b.links b.lost s.lost s.job_table.links
  pub some : AllEnded s.job_table.jobs → 0 < length b.links → 0 < live s.job_table.links
  pub reads : live s.job_table.links ≡ length s.job_table.links → NoneFull (somes s.slots)
      → reads_of (somes s.slots) ≡ reads_of b.links + sent_reads jobs s.job_table.jobs
  pub each_job : (j : ℕ) (job : Job) (p : JobPlace) → slice_get jobs j ≡ Some job → slice_get s.job_table.jobs j ≡ Some
      p
      → IsSomeAnd (slice_get s.kept.kept j) (JobGoes b job p)
  pub each_link : (i : ℕ) (p : LinkPlace) (h : Receiving) (slot : Option LinkState) → slice_get s.job_table.links i ≡
      Some p
      → slice_get s.receivings i ≡ Some h → slice_get s.slots i ≡ Some slot
      → IsSomeAnd (slice_get b.links i) (λ from. LinkGoes jobs b s.job_table.jobs s.kept.kept from i p h slot)

-- some run is at this state
pub record Runs (jobs : List Job) (s : State) : Type 0 where
  pub began : Began
  pub going : Going jobs began s

-- some run is at this state, in which each idle link was given a job or none waited
pub record RunsOn (jobs : List Job) (s : State) : Type 0 where
  pub began : Began
  pub all : began.all ≡ true
  pub going : Going jobs began s

-- each run at the one state continues to the other
abbrev pub GoesOn : List Job → State → State → Type 0
GoesOn jobs s t = (b : Began) → Going jobs b s → Going jobs b t

-- the same, of a run in which each idle link was given a job or none waited
abbrev pub ReceivesOn : List Job → State → State → Type 0
ReceivesOn jobs s t = (b : Began) → b.all ≡ true → Going jobs b s → Going jobs b t

-- ---- how much is still to be received

-- what all jobs cost
abbrev pub total : List Job → ℕ
total [] = 0
total (j ∷ js) = items_cost j.items + total js

-- what is left of all jobs
abbrev pub work : List Job → List JobItems → ℕ
work [] ks = 0
work (j ∷ js) [] = items_cost j.items + work js []
work (j ∷ js) (k ∷ ks) = job_left j k + work js ks

-- falls with each frame, and with each link that is lost
abbrev pub measure : List Job → State → ℕ
measure jobs s = live s.job_table.links * suc (total jobs) + work jobs s.kept.kept

-- ---- what an event leaves

-- the keeper holds another thing of one job
abbrev pub Changed : (JobItems → JobItems → Type 0) → ℕ → PartSinkState → PartSinkState → Type 0
Changed R job old new = (new.faults ≡ old.faults) × (new.jobs ≡ old.jobs) × ChangesAt R old.kept new.kept job

-- some frame was received, or a link was lost: less is left, and the keeper didn't fail
pub record Advances (jobs : List Job) (s t : State) : Type 0 where
  pub falls : measure jobs t < measure jobs s
  pub faults : t.kept.faults ≡ s.kept.faults
  pub links : length t.job_table.links ≡ length s.job_table.links

-- a job may have been given, or a link lost
pub record Gave (jobs : List Job) (s t : State) : Type 0 where
  pub falls : measure jobs t ≤ measure jobs s
  pub faults : t.kept.faults ≡ s.kept.faults
  pub links : length t.job_table.links ≡ length s.job_table.links

-- what giving a job to link i leaves: nothing waits, or a job was given, or the link wasn't idle
abbrev pub Settles : Dispatch → Dispatch → ℕ → Type 0
Settles old new i = ((new ≡ old) × (IsIdle old i → NoneWaits old))
    ⊎ ((j : ℕ) × Waits old j × ((k : ℕ) → IsIdle new k → (k ≡ i → ⊥) × IsIdle old k))

-- the worker that couldn't read an item of a job is the one link that is left
pub record UnreadLeaves (jobs : List Job) (b : Began) (j item : ℕ) (slots : List (Option LinkState)) : Type 0 where
  pub now : LinkState
  pub is : slots ≡ Some now ∷ []
  pub given : last_five now.given ≡ spell Unread
  pub from : LinkState
  pub link : ℕ
  pub from_is : slice_get b.links link ≡ Some from
  pub job : Job
  pub job_is : slice_get jobs j ≡ Some job
  pub within : item < length job.items
  pub unread : (i : Item) → slice_get job.items item ≡ Some i → UnreadBy from.known i

-- why a frame wasn't taken
abbrev pub ReceiveFault : List Job → DispatchFault → State → State → Type 0
ReceiveFault jobs faults.WorkersLost s t = ⊥
ReceiveFault jobs (faults.Unread j item) s t = (b : Began) → Going jobs b s → UnreadLeaves jobs b j item t.slots
ReceiveFault jobs faults.PartSink s t = Rises s.kept.faults t.kept.faults
ReceiveFault jobs faults.NoMemory s t = Unit {0}

-- no link is busy
abbrev pub NoneBusy : Dispatch → Type 0
NoneBusy job_table = (l j : ℕ) → slice_get job_table.links l ≡ Some (Busy j) → ⊥

-- what a round leaves, where done says whether each job has ended
pub record IsRound (jobs : List Job) (s t : State) (done : Bool) : Type 0 where
  pub falls : done ≡ false → measure jobs t < measure jobs s
  pub stays : measure jobs t ≤ measure jobs s
  pub faults : t.kept.faults ≡ s.kept.faults
  pub idle : (k : ℕ) → IsIdle t.job_table k → NoneWaits t.job_table
  pub over : done ≡ true → AllEnded t.job_table.jobs × NoneBusy t.job_table

-- after a run at this state these are the entries that there were as it began, and further ones, which are losses
abbrev pub ShowsLosses : List Job → State → List Entry → Type 0
ShowsLosses jobs s after = (b : Began) → Going jobs b s → AddsLosses jobs b.links b.lost after

-- the same, of a run in which each idle link was given a job or none waited
abbrev pub ShowsLossesOn : List Job → State → List Entry → Type 0
ShowsLossesOn jobs s after = (b : Began) → b.all ≡ true → Going jobs b s → AddsLosses jobs b.links b.lost after

-- each link that the run began with is lost, and has its entry
pub record AllLost (jobs : List Job) (b : Began) (after : List Entry) : Type 0 where
  pub entries : List Entry
  pub is : after ≡ b.lost ++ entries
  pub each : AllByRecursion (IsLoss jobs b.links) entries
  pub has : (l : ℕ) → l < length b.links → (k : ℕ) × (e : Entry) × (slice_get entries k ≡ Some e) × (e.place ≡ l)
  pub count : length entries ≡ length b.links

-- why a run ended early
abbrev pub RunFault : List Job → DispatchFault → State → State → Type 0
RunFault jobs faults.WorkersLost s t = (b : Began) → b.all ≡ true → Going jobs b s → AllLost jobs b t.lost
RunFault jobs (faults.Unread j item) s t = (b : Began) → b.all ≡ true → Going jobs b s
    → UnreadLeaves jobs b j item t.slots
RunFault jobs faults.PartSink s t = Rises s.kept.faults t.kept.faults
RunFault jobs faults.NoMemory s t = Unit {0}

-- ---- a whole run

-- a run of all jobs over these links, before any was given
pub record Starts (jobs : List Job) (links : List LinkState) (s : State) : Type 0 where
  pub job_table : s.job_table ≡ start (length jobs) (length links)
  pub slots : s.slots ≡ map Some links
  pub receivings : length s.receivings ≡ length links
  pub keeps : s.kept.jobs ≡ jobs
  pub ready : (i : ℕ) (from : LinkState) → slice_get links i ≡ Some from → IsDrained from.known from.known
  pub fresh : (j : ℕ) → j < length jobs → IsSomeAnd (slice_get s.kept.kept j) IsFresh

-- each job has ended, with what some link of these read
abbrev pub AllDone : List Job → List LinkState → List JobItems → Type 0
AllDone jobs links kept = (j : ℕ) (job : Job) → slice_get jobs j ≡ Some job
    → IsSomeAnd (slice_get kept j) (EndedBy links job)

-- Of these links those that weren't lost are left, in their order. None has anything to give, and each was sent a job
-- where there were as many jobs as links. Each of the others has its entry, and each entry states why.
pub record Left (jobs : List Job) (links : List LinkState) (before after : List Entry) (now : List LinkState) : Type
    0 where
  pub slots : List (Option LinkState)
  pub slot_count : length slots ≡ length links
  pub now_are : now ≡ somes slots
  pub rests : (i : ℕ) (from s : LinkState) → slice_get links i ≡ Some from → slice_get slots i ≡ Some (Some s)
      → Rests (record { links = links; lost = before; all = true }) (length jobs) from s
  pub entries : List Entry
  pub is : after ≡ before ++ entries
  pub each : AllByRecursion (IsLoss jobs links) entries
  pub gone : (i : ℕ) → slice_get slots i ≡ Some None
      → (k : ℕ) × (e : Entry) × (slice_get entries k ≡ Some e) × (e.place ≡ i)
  pub once : length entries + length now ≡ length links

-- why the jobs weren't done
abbrev pub JobsFault : List Job → DispatchFault → List LinkState → List Entry → List Entry → ℕ → ℕ → List LinkState
    → Type 0
JobsFault jobs faults.WorkersLost links before after old new now =
    AllLost jobs (record { links = links; lost = before; all = true }) after
JobsFault jobs (faults.Unread j item) links before after old new now =
    UnreadLeaves jobs (record { links = links; lost = before; all = true }) j item (map Some now)
JobsFault jobs faults.PartSink links before after old new now = Rises old new
JobsFault jobs faults.NoMemory links before after old new now = Unit {0}

-- a worker could not read an item
abbrev pub IsUnread : DispatchFault → Type 0
IsUnread faults.WorkersLost = ⊥
IsUnread (faults.Unread j item) = Unit {0}
IsUnread faults.PartSink = ⊥
IsUnread faults.NoMemory = ⊥

-- what a run begins with
abbrev pub fresh : List LinkState → List Entry → Began
fresh links lost = record { links = links; lost = lost; all = false }

-- each idle link was given a job, or none waits
abbrev pub begun : List LinkState → List Entry → Began
begun links lost = record { links = links; lost = lost; all = true }

-- what a run leaves in its slots, by its result
abbrev pub SlotsLeave : List Job → List LinkState → List Entry → ℕ → DispatchFault → State → Type 0
SlotsLeave jobs links before old faults.WorkersLost t = AllLost jobs (begun links before) t.lost
SlotsLeave jobs links before old (faults.Unread j item) t = UnreadLeaves jobs (begun links before) j item t.slots
SlotsLeave jobs links before old faults.PartSink t = Rises old t.kept.faults
SlotsLeave jobs links before old faults.NoMemory t = Unit {0}

-- a link that reads any files has nothing to give
abbrev pub IsReady : LinkState → Type 0
IsReady s = IfSome s.known (λ t. (tree repo : Content) → Reads tree repo t → t.pending ≡ [])

-- none of the links has
abbrev pub AreReady : List LinkState → Type 0
AreReady links = (i : ℕ) (s : LinkState) → slice_get links i ≡ Some s → IsReady s
