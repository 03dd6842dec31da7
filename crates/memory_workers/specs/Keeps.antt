-- What a keeper in memory holds. Own.
use Rattle.std.specs.Prelude.{ℕ, Bool, ◌≡◌, [], List, Some, None, map, IfSome, slice_get, if◌then◌else◌}
use Rattle.worker_protocol.specs.Views.{job_of}
use Rattle.worker_protocol.specs.PartSinkState.{Held, Done, JobItems, PartSinkState}
use Rattle.memory_workers.specs.declared.keep.HeldItem.{HeldItem}
use Rattle.memory_workers.specs.declared.keep.KeptJob.{KeptJob}
use Rattle.memory_workers.specs.declared.keep.MemPartSink.{MemPartSink}

-- this many bytes, which are known where they are held
abbrev pub held_of : Bool → ℕ → List ℕ → Held
held_of holds n bytes = record { count = n; known = if holds then Some bytes else None }

abbrev pub done_of : Bool → HeldItem → Done
done_of holds e = record { held = held_of holds e.count e.bytes.items; end = e.how }

abbrev pub kept_of : Bool → KeptJob → JobItems
kept_of holds j = record { done = map (done_of holds) j.ended.items; held = held_of holds j.count j.bytes.items }

abbrev pub state_of : MemPartSink → PartSinkState
state_of k = record {
  faults = k.failing.faults;
  jobs = map job_of k.jobs.now;
  kept = map (kept_of k.holds) k.kept.items;
}

-- nothing was received of the job yet
abbrev pub IsEmpty : KeptJob → Type 0
IsEmpty j = (j.ended.items ≡ []) × (j.count ≡ 0) × (j.bytes.items ≡ [])

-- these items of the job have ended
abbrev pub HaveEnded : MemPartSink → ℕ → List HeldItem → Type 0
HaveEnded k job items = IfSome (slice_get (state_of k).kept job) (λ j. j.done ≡ map (done_of k.holds) items)
