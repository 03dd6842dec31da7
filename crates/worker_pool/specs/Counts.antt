-- How many read jobs links were sent. Own.
use Rattle.std.specs.Prelude.{ℕ, ◌≡◌, ◌≢◌, ◌+◌, ◌-◌, ◌^◌, List, [], ◌∷◌}
use Rattle.std.specs.List.{AllByRecursion}
use Rattle.base_devices.specs.Links.{LinkState}
use Rattle.worker_protocol.specs.declared.frames.frames.JobKind.{JobKind}
use Rattle.worker_protocol.specs.declared.frames.frames.JobKind.TheVariants.{Read, Digest}
use Rattle.worker_protocol.specs.Frames.{Job}
use Rattle.worker_pool.specs.declared.jobs.JobPlace.{JobPlace}
use Rattle.worker_pool.specs.declared.jobs.JobPlace.TheVariants.{Waiting, With, Ended}
use Rattle.worker_pool.specs.Reads.{IsSteadyWorker}

-- a read job counts as one
abbrev pub one_if_read : JobKind → ℕ
one_if_read Read = 1
one_if_read Digest = 0

-- how many of these jobs are read jobs
abbrev pub read_jobs : List Job → ℕ
read_jobs [] = 0
read_jobs (j ∷ js) = one_if_read j.kind + read_jobs js

-- a read job that doesn't wait counts as one
abbrev pub one_if_sent : JobKind → JobPlace → ℕ
one_if_sent kind Waiting = 0
one_if_sent kind (With l) = one_if_read kind
one_if_sent kind Ended = one_if_read kind

-- how many of these jobs are read jobs that don't wait, by their places
abbrev pub sent_reads : List Job → List JobPlace → ℕ
sent_reads [] ps = 0
sent_reads (j ∷ js) [] = 0
sent_reads (j ∷ js) (p ∷ ps) = one_if_sent j.kind p + sent_reads js ps

-- the links' counts of read jobs, together
abbrev pub reads_of : List LinkState → ℕ
reads_of [] = 0
reads_of (s ∷ ss) = s.reads + reads_of ss

-- no link's count of read jobs is at its end
abbrev pub NoneFull : List LinkState → Type 0
NoneFull = AllByRecursion (λ s. s.reads ≢ 2 ^ 64 - 1)

-- each link is a steady worker
abbrev pub AllSteady : List LinkState → Type 0
AllSteady = AllByRecursion (λ s. IsSteadyWorker s.known)

-- where each link is a steady worker, and no count is at its end, the counts rose together by the number of read
-- jobs
abbrev pub ReadsRise : List Job → List LinkState → List LinkState → Type 0
ReadsRise jobs links now = AllSteady links → NoneFull now → reads_of now ≡ reads_of links + read_jobs jobs
