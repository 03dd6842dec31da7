-- How digest jobs of one item each end. Own.
use Rattle.std.specs.Prelude.{ℕ, Bool, false, ◌≡◌, ◌==◌, ◌&&◌, List, [], ◌∷◌, length, Option, Some, None, IsSomeAnd, slice_get, bytes_eq}
use Rattle.base_devices.specs.Links.{LinkState}
use Rattle.base_model.specs.Text.{Text, In}
use Rattle.base_model.specs.Values.{FileEntry}
use Rattle.worker_protocol.specs.declared.frames.frames.JobKind.TheVariants.{Digest}
use Rattle.worker_protocol.specs.Frames.{Item, Job}
use Rattle.worker_protocol.specs.declared.sinks.ItemEnd.{ItemEnd}
use Rattle.worker_protocol.specs.declared.sinks.ItemEnd.TheVariants.{Whole, Vanished}
use Rattle.worker_protocol.specs.PartSinkState.{Done, JobItems}
use Rattle.worker_pool.specs.Reads.{SumsBy, AbsentBy}

-- the job that digests this item alone
abbrev pub digest_of : Item → Job
digest_of i = record { kind = Digest; items = i ∷ [] }

-- each of these jobs is one
abbrev pub AreDigests : List Job → Type 0
AreDigests jobs = (j : Job) → In j jobs → (i : Item) × (j ≡ digest_of i)

-- one of these links reported this number and digest of the item's bytes
pub record IsDigestedBy (links : List LinkState) (item : Item) (n : ℕ) (sum : Text) : Type 0 where
  pub link : ℕ
  pub from : LinkState
  pub is : slice_get links link ≡ Some from
  pub sums : SumsBy from.known item n sum

-- one of these links reported that the item's file is absent
pub record IsAbsentBy (links : List LinkState) (item : Item) : Type 0 where
  pub link : ℕ
  pub from : LinkState
  pub is : slice_get links link ≡ Some from
  pub absent : AbsentBy from.known item

-- how an item ended, as one of these links reported it
abbrev pub IsEndBy : List LinkState → Item → ItemEnd → Type 0
IsEndBy links item (Whole n sum) = IsDigestedBy links item n sum.0
IsEndBy links item Vanished = IsAbsentBy links item

-- each of these digest jobs ended so
pub record AreEnds (links : List LinkState) (jobs : List Job) (ends : List (Option ItemEnd)) : Type 0 where
  pub count : length ends ≡ length jobs
  pub each : (k : ℕ) (item : Item) → slice_get jobs k ≡ Some (digest_of item)
      → IsSomeAnd (slice_get ends k) (λ end. IsSomeAnd end (IsEndBy links item))

-- how the first item of a job ended
abbrev pub first_end : List Done → Option ItemEnd
first_end [] = None
first_end (d ∷ ds) = Some d.end

abbrev pub end_of : JobItems → Option ItemEnd
end_of k = first_end k.done

-- the item ended whole, with this number and digest
abbrev pub IsWhole : Option ItemEnd → ℕ → Text → Type 0
IsWhole None n sum = ⊥
IsWhole (Some (Whole m s)) n sum = (m ≡ n) × (s.0 ≡ sum)
IsWhole (Some Vanished) n sum = ⊥

-- the item ended with the entry's number and digest
abbrev pub is_equal : FileEntry → Option ItemEnd → Bool
is_equal e None = false
is_equal e (Some (Whole n sum)) = (n == e.size) && bytes_eq sum.0 e.sum
is_equal e (Some Vanished) = false
