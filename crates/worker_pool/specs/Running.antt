-- What calls leave of a run, over the values of the program. Own.
use Rattle.std.specs.Prelude.{ℕ, Bool, ◌≡◌, ◌⊎◌, List, [], ◌∷◌, ◌++◌, map, Result, IfOk, IfErr, OnOk, OnErr}
use Rattle.base_devices.specs.Links.{LinkState}
use Rattle.worker_protocol.specs.declared.frames.frames.Job.{Job}
use Rattle.worker_protocol.specs.declared.replies.cause.LostCause.{LostCause}
use Rattle.worker_protocol.specs.PartSinkState.{PartSinkState}
use Rattle.worker_protocol.specs.Views.{job_of}
use Rattle.worker_pool.specs.declared.dispatch.fault.DispatchFault.{DispatchFault}
use Rattle.worker_pool.specs.declared.dispatch.fault.Lost.{Lost}
use Rattle.worker_pool.specs.declared.dispatch.job_run.Run.{Run}
use Rattle.worker_pool.specs.Run as runs
use Rattle.worker_pool.specs.Slots.{slot_states}

-- the state of a run, where the keeper holds this
abbrev pub state_of : {L : Type 0} → (L → LinkState) → Run L → PartSinkState → runs.State
state_of of run kept =
    runs.state of run.job_table run.links.slots.items run.links.receivings.items kept run.lost.items

-- The words below take the state of a link, what a keeper holds, and the jobs; then the run, the keeper and its device,
-- before and after.

-- it is a run
abbrev pub IsRunning : {L K W : Type 0} → (L → LinkState) → (K → W → PartSinkState) → List Job → Run L → K → W → Type 0
IsRunning of kept jobs run k w = runs.Runs (map job_of jobs) (state_of of run (kept k w))

-- it is a run in which each idle link was given a job or none waited
abbrev pub IsRunningOn : {L K W : Type 0} → (L → LinkState) → (K → W → PartSinkState) → List Job → Run L → K → W
    → Type 0
IsRunningOn of kept jobs run k w = runs.RunsOn (map job_of jobs) (state_of of run (kept k w))

-- it is a run of which no link was given a job yet
abbrev pub HasStarted : {L K W : Type 0} → (L → LinkState) → (K → W → PartSinkState) → List Job → Run L → K → W → Type 0
HasStarted of kept jobs run k w =
    (links : List LinkState) × runs.Starts (map job_of jobs) links (state_of of run (kept k w))

-- the run continues
abbrev pub RunGoesOn : {L K W R : Type 0} → Result R DispatchFault → (L → LinkState) → (K → W → PartSinkState)
    → List Job → Run L → K → W → Run L → K → W → Type 0
RunGoesOn result of kept jobs old k v new l w =
    OnOk result (runs.GoesOn (map job_of jobs) (state_of of old (kept k v)) (state_of of new (kept l w)))

-- the run continues in which each idle link was given a job or none waited
abbrev pub RunReceivesOn : {L K W R : Type 0} → Result R DispatchFault → (L → LinkState) → (K → W → PartSinkState)
    → List Job → Run L → K → W → Run L → K → W → Type 0
RunReceivesOn result of kept jobs old k v new l w =
    OnOk result (runs.ReceivesOn (map job_of jobs) (state_of of old (kept k v)) (state_of of new (kept l w)))

-- a job may have been given, or a link lost
abbrev pub GivesJobs : {L K W R : Type 0} → Result R DispatchFault → (L → LinkState) → (K → W → PartSinkState)
    → List Job → Run L → K → W → Run L → K → W → Type 0
GivesJobs result of kept jobs old k v new l w =
    OnOk result (runs.Gave (map job_of jobs) (state_of of old (kept k v)) (state_of of new (kept l w)))

-- some frame was received, or a link was lost
abbrev pub RunAdvances : {L K W R : Type 0} → Result R DispatchFault → (L → LinkState) → (K → W → PartSinkState)
    → List Job → Run L → K → W → Run L → K → W → Type 0
RunAdvances result of kept jobs old k v new l w =
    OnOk result (runs.Advances (map job_of jobs) (state_of of old (kept k v)) (state_of of new (kept l w)))

-- a round was made; the result says whether each job has ended
abbrev pub MakesRound : {L K W : Type 0} → Result Bool DispatchFault → (L → LinkState) → (K → W → PartSinkState)
    → List Job → Run L → K → W → Run L → K → W → Type 0
MakesRound result of kept jobs old k v new l w =
    IfOk result (runs.IsRound (map job_of jobs) (state_of of old (kept k v)) (state_of of new (kept l w)))

-- why the run ended early
abbrev pub RunEndsEarly : {L K W R : Type 0} → Result R DispatchFault → (L → LinkState) → (K → W → PartSinkState)
    → List Job → Run L → K → W → Run L → K → W → Type 0
RunEndsEarly result of kept jobs old k v new l w = IfErr result
    (λ e. runs.RunFault (map job_of jobs) e (state_of of old (kept k v)) (state_of of new (kept l w)))

-- why a frame wasn't taken
abbrev pub FrameRefused : {L K W R : Type 0} → Result R DispatchFault → (L → LinkState) → (K → W → PartSinkState)
    → List Job → Run L → K → W → Run L → K → W → Type 0
FrameRefused result of kept jobs old k v new l w = IfErr result
    (λ e. runs.ReceiveFault (map job_of jobs) e (state_of of old (kept k v)) (state_of of new (kept l w)))

-- after a refusal the entries are those that there were as the run began, and losses
abbrev pub RunShowsLosses : {L K W R : Type 0} → Result R DispatchFault → (L → LinkState) → (K → W → PartSinkState)
    → List Job → Run L → K → W → Run L → Type 0
RunShowsLosses result of kept jobs old k v new =
    OnErr result (runs.ShowsLosses (map job_of jobs) (state_of of old (kept k v)) new.lost.items)

-- the same, of a run in which each idle link was given a job or none waited
abbrev pub RunShowsLossesOn : {L K W R : Type 0} → Result R DispatchFault → (L → LinkState) → (K → W → PartSinkState)
    → List Job → Run L → K → W → Run L → Type 0
RunShowsLossesOn result of kept jobs old k v new =
    OnErr result (runs.ShowsLossesOn (map job_of jobs) (state_of of old (kept k v)) new.lost.items)

-- a run that had started continues
abbrev pub RunsFromStart : {L K W R : Type 0} → Result R DispatchFault → (L → LinkState) → (K → W → PartSinkState)
    → List Job → Run L → K → W → Run L → K → W → Type 0
RunsFromStart result of kept jobs old k v new l w = OnOk result
    ((links : List LinkState) → runs.Starts (map job_of jobs) links (state_of of old (kept k v))
    → runs.Going (map job_of jobs) (runs.begun links old.lost.items) (state_of of new (kept l w)))

-- why a run that had started ended early
abbrev pub StartEndsEarly : {L K W R : Type 0} → Result R DispatchFault → (L → LinkState) → (K → W → PartSinkState)
    → List Job → Run L → K → W → Run L → K → W → Type 0
StartEndsEarly result of kept jobs old k v new l w = IfErr result
    (λ e. (links : List LinkState) → runs.Starts (map job_of jobs) links (state_of of old (kept k v))
    → runs.SlotsLeave (map job_of jobs) links old.lost.items (kept k v).faults e (state_of of new (kept l w)))

-- each later entry of the run is a loss
abbrev pub RunAddsLosses : {L : Type 0} → (L → LinkState) → List Job → Run L → Run L → Type 0
RunAddsLosses of jobs old new = runs.AddsLosses (map job_of jobs)
    (runs.somes (slot_states of old.links.slots.items)) old.lost.items new.lost.items

-- the link of this number is reported as lost
abbrev pub ReportsLoss : ℕ → LostCause → List Lost → List Lost → Type 0
ReportsLoss i cause before after = after ≡ before ++ (record { place = i; cause = cause }) ∷ []

-- it may be
abbrev pub MayReportLoss : ℕ → LostCause → List Lost → List Lost → Type 0
MayReportLoss i cause before after = (after ≡ before) ⊎ ReportsLoss i cause before after
