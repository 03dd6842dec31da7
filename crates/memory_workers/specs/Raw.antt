-- What a link that gives fixed bytes counts and gave. Own.
use Rattle.std.specs.Prelude.{ℕ, List, None, ◌≡◌, take, drop}
use Rattle.base_devices.specs.Links.{LinkState, last_five}
use Rattle.memory_workers.specs.declared.raw.RawLink.{RawLink}

-- what it is still to give
abbrev pub rest_of : RawLink → List ℕ
rest_of l = l.tape.rest

-- its answers are unknown
abbrev pub state_of : RawLink → LinkState
state_of l = record {
  faults = l.failing.faults;
  jobs = l.jobs;
  reads = l.reads;
  given = last_five l.tape.given;
  known = None;
}

-- the next bytes, as many as the number says, are at the front of these
abbrev pub GivesNext : ℕ → List ℕ → RawLink → RawLink → Type 0
GivesNext n bytes old new = (take n bytes ≡ take n (rest_of old)) × (rest_of new ≡ drop n (rest_of old))
