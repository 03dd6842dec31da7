-- How far a reply was received, and which frames may follow. Own.
use Rattle.std.specs.Prelude.{ℕ, true, ◌≡◌, ◌≢◌, ◌==◌, ◌+◌, ◌≤◌, [], ◌++◌, length, IsSomeAnd, slice_get}
use Rattle.sha1.specs.Sha1 as sha
use Rattle.base_model.specs.Text.{Text}
use Rattle.worker_protocol.specs.declared.frames.frames.Root.TheVariants.{DataFolder}
use Rattle.worker_protocol.specs.declared.frames.frames.JobKind.TheVariants.{Read}
use Rattle.worker_protocol.specs.Frames.{Job, part_size}
use Rattle.worker_protocol.specs.declared.replies.cause.LostCause.{LostCause}
use Rattle.worker_protocol.specs.declared.replies.cause.LostCause.TheVariants as causes
use Rattle.worker_pool.specs.declared.replies.receiving.Receiving.{Receiving}

-- nothing was received of this item
pub record StartsAt (index : ℕ) (new : Receiving) : Type 0 where
  pub item : new.item ≡ index
  pub count : new.count ≡ 0
  pub full : new.full ≡ true
  pub digest : sha.Holds new.digest []

-- these bytes of the item were received too
pub record ReceivesMore (more : Text) (old new : Receiving) : Type 0 where
  pub item : new.item ≡ old.item
  pub count : new.count ≡ old.count + length more
  pub full : new.full ≡ (length more == part_size)
  pub digest : (m : Text) → sha.Holds old.digest m → sha.Holds new.digest (m ++ more)

-- this many more bytes may follow: the job reads, each part so far was full, and the item has room
pub record MayFollow (job : Job) (h : Receiving) (more : ℕ) : Type 0 where
  pub reads : job.kind ≡ Read
  pub full : h.full ≡ true
  pub room : IsSomeAnd (slice_get job.items h.item) (λ i. h.count + more ≤ i.size)

-- the item's root is the data folder
abbrev pub IsOfTree : Job → ℕ → Type 0
IsOfTree job item = IsSomeAnd (slice_get job.items item) (λ i. i.root ≡ DataFolder)

-- An end with this number and digest is right: it is within the size, and a read item has this many bytes with this
-- digest.
pub record EndsRight (job : Job) (item count number : ℕ) (known found : Text) : Type 0 where
  pub size : IsSomeAnd (slice_get job.items item) (λ i. number ≤ i.size)
  pub read : job.kind ≡ Read → (number ≡ count) × (known ≡ found)

-- two sums that are reported differ
abbrev pub IsKnown : LostCause → Type 0
IsKnown causes.Device = Unit {0}
IsKnown (causes.Ended at) = Unit {0}
IsKnown (causes.Form at) = Unit {0}
IsKnown (causes.Sum known found) = known.0 ≢ found.0

-- the cause is a wrong sum, or the form of a frame, after this many bytes of the reply
abbrev pub IsOfFrame : LostCause → ℕ → Type 0
IsOfFrame causes.Device received_reply = ⊥
IsOfFrame (causes.Ended at) received_reply = ⊥
IsOfFrame (causes.Form at) received_reply = at ≡ received_reply
IsOfFrame (causes.Sum known found) received_reply = Unit {0}
