-- What a keeper in memory holds. Own.
use Rattle.std.specs.Prelude.{ℕ, ◌≡◌, ◌<◌, [], List, length, Some, map, IsSomeAnd, slice_get}
use Rattle.worker_protocol.specs.Frames.{Job}
use Rattle.worker_protocol.specs.Views.{job_of}
use Rattle.worker_protocol.specs.PartSinkState.{Held, Done, JobItems, PartSinkState, IsFresh}
use Rattle.worker_pool.specs.declared.digest_runs.memory_keeper.ReadItem.{ReadItem}
use Rattle.worker_pool.specs.declared.digest_runs.memory_keeper.HeldJob.{HeldJob}
use Rattle.worker_pool.specs.declared.digest_runs.memory_keeper.Holder.{Holder}

-- these bytes are held, and reported
abbrev pub held_bytes : List ℕ → Held
held_bytes bytes = record { count = length bytes; known = Some bytes }

abbrev pub done_item : ReadItem → Done
done_item e = record { held = held_bytes e.bytes.items; end = e.how }

abbrev pub held_job : HeldJob → JobItems
held_job j = record { done = map done_item j.ended.items; held = held_bytes j.bytes.items }

-- it never fails
abbrev pub state_of : Holder → PartSinkState
state_of k = record { faults = 0; jobs = map job_of k.jobs.now; kept = map held_job k.held.items }

-- nothing was received of the job yet
abbrev pub IsEmpty : HeldJob → Type 0
IsEmpty j = (j.ended.items ≡ []) × (j.bytes.items ≡ [])

-- a keeper holds nothing of any of these jobs yet
abbrev pub HoldsNothing : List Job → PartSinkState → Type 0
HoldsNothing jobs s = (j : ℕ) → j < length jobs → IsSomeAnd (slice_get s.kept j) IsFresh
