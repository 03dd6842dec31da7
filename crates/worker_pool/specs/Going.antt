-- A reply in its course, and what a frame of it leaves. Own.
use Rattle.std.specs.Prelude.{ℕ, suc, Bool, true, ◌≡◌, ◌==◌, ◌⊎◌, ◌+◌, ◌-◌, ◌*◌, ◌<◌, ◌≤◌, ◌^◌, min, List, [], ◌∷◌, ◌++◌, length, drop, Option, Some, None, if◌then◌else◌, slice_get, slice_set}
use Rattle.std.specs.List.{flat_map}
use Rattle.sha1.specs.Sha1 as sha
use Rattle.base_devices.specs.Cause.{Rises}
use Rattle.base_devices.specs.Content.{Content, Value}
use Rattle.base_devices.specs.Links.{LinkState, Modelled}
use Rattle.base_model.specs.Text.{Text}
use Rattle.worker_protocol.specs.declared.frames.frames.JobKind.{JobKind}
use Rattle.worker_protocol.specs.declared.frames.frames.JobKind.TheVariants.{Digest}
use Rattle.worker_protocol.specs.Frames.{Item, Job, spell, part_size}
use Rattle.worker_protocol.specs.Replies.{payload, item_rest, absent_reply, replies}
use Rattle.worker_protocol.specs.declared.replies.cause.LostCause.{LostCause}
use Rattle.worker_protocol.specs.declared.replies.cause.LostCause.TheVariants as causes
use Rattle.worker_protocol.specs.Takes.{HasReceived, TakesPrefix}
use Rattle.worker_protocol.specs.PartSinkState.{JobItems, PartSinkState, Holds}
use Rattle.worker_pool.specs.Receivings.{IsKnown}
use Rattle.worker_pool.specs.Reads.{Reads, IsSteadyWorker, IsHonest, UnreadBy, AllEnd, file_of}
use Rattle.worker_pool.specs.declared.replies.receiving.Receiving.{Receiving}
use Rattle.worker_pool.specs.declared.replies.fault.ReplyFault.{ReplyFault}
use Rattle.worker_pool.specs.declared.replies.fault.ReplyFault.TheVariants as faults
use Rattle.worker_pool.specs.declared.replies.reply.Verdict.{Verdict}
use Rattle.worker_pool.specs.declared.replies.reply.Verdict.TheVariants as verdicts

-- the two links are alike except for what is still to be given
abbrev pub IsSame : Option Modelled → Option Modelled → Type 0
IsSame None None = Unit {0}
IsSame None (Some b) = ⊥
IsSame (Some a) None = ⊥
IsSame (Some a) (Some b) = (b.answer ≡ a.answer) × (b.steady ≡ a.steady)

-- what is still to be given of an item of which these bytes were received, in full parts or not, and of the items after
-- it
abbrev pub IsPending : JobKind → Item → Value → List Item → Text → Bool → Content → Content → Text → Type 0
IsPending kind i None left bytes full tree repo pending = (bytes ≡ [])
    × (pending ≡ flat_map spell (absent_reply i.root (replies kind left tree repo)))
IsPending kind i (Some file) left bytes full tree repo pending =
    (more : Text) × (payload i file ≡ bytes ++ more) × ((more ≡ []) ⊎ (full ≡ true))
    × (pending ≡ flat_map spell (item_rest kind (payload i file) more (replies kind left tree repo)))

-- what the link is still to give, where it reads such roots
abbrev pub Shows : (Content → Content → Text → Type 0) → Option Modelled → Option Modelled → Type 0
Shows P None None = Unit {0}
Shows P None (Some b) = ⊥
Shows P (Some a) None = ⊥
Shows P (Some a) (Some b) = IsSame (Some a) (Some b)
    × ((tree repo : Content) → Reads tree repo a → P tree repo b.pending)

-- the rest of an item, and the items after it
abbrev pub ShowsItem : JobKind → Item → List Item → Text → Bool → Option Modelled → Option Modelled → Type 0
ShowsItem kind i left bytes full = Shows
    (λ tree repo pending. IsPending kind i (file_of i tree repo) left bytes full tree repo pending)

-- these items
abbrev pub ShowsItems : JobKind → List Item → Option Modelled → Option Modelled → Type 0
ShowsItems kind items = Shows (λ tree repo pending. pending ≡ flat_map spell (replies kind items tree repo))

-- nothing is still to be given by a link that reads any files
abbrev pub IsDrained : Option Modelled → Option Modelled → Type 0
IsDrained = Shows (λ tree repo pending. pending ≡ [])

-- The reply to a job in its course. The link began it as from, and has now what is left; this is held of the job,
-- and so far was received.
pub record Goes (from now : Option Modelled) (job : Job) (k : JobItems) (h : Receiving) : Type 0 where
  pub past : List Item
  pub next : Item
  pub left : List Item
  pub bytes : Text
  pub parts : ℕ
  pub split : job.items ≡ past ++ next ∷ left
  pub index : h.item ≡ length past
  pub count : h.count ≡ length bytes
  pub aligned : h.full ≡ true → length bytes ≡ parts * part_size
  pub digest : sha.Holds h.digest bytes
  pub held : Holds k.held bytes
  pub ended : AllEnd from job.kind past k.done
  pub room : length bytes ≤ next.size
  pub none : job.kind ≡ Digest → bytes ≡ []
  pub known : ShowsItem job.kind next left bytes h.full from now

-- so the reply continues, and the keeper is for the job
pub record At (from now : Option Modelled) (job : Job) (number : ℕ) (h : Receiving) (s : PartSinkState) (k : JobItems) :
    Type 0 where
  pub goes : Goes from now job k h
  pub kept : slice_get s.kept number ≡ Some k
  pub asked : slice_get s.jobs number ≡ Some job

-- there is such a reply in its course
pub record IsAt (job : Job) (number : ℕ) (h : Receiving) (s : PartSinkState) : Type 0 where
  pub from : Option Modelled
  pub now : Option Modelled
  pub kept : JobItems
  pub at : At from now job number h s kept

-- a known link in such a state is in the course of its reply to the job, and the keeper is for the job
abbrev pub IsGiving : Option Modelled → Job → ℕ → Receiving → PartSinkState → Type 0
IsGiving now job number h s = (from : Option Modelled) × (k : JobItems) × At from now job number h s k

-- ---- how much is still to be received

-- what items cost: a frame each besides their bytes
abbrev pub items_cost : List Item → ℕ
items_cost [] = 0
items_cost (i ∷ is) = suc (i.size) + items_cost is

-- what is left of a job of which this is held
abbrev pub job_left : Job → JobItems → ℕ
job_left job k = items_cost (drop (length k.done) job.items) - k.held.count

-- ---- what a frame leaves

-- the keeper holds another thing of one job
pub record KeptAt (old new : PartSinkState) (number : ℕ) (m : JobItems) : Type 0 where
  pub faults : new.faults ≡ old.faults
  pub jobs : new.jobs ≡ old.jobs
  pub kept : new.kept ≡ slice_set old.kept number m

-- the reply continues
pub record GoesOn (from now : Option Modelled) (job : Job) (number : ℕ) (h : Receiving) (k : JobItems)
    (old new : PartSinkState) : Type 0 where
  pub kept : JobItems
  pub is : KeptAt old new number kept
  pub goes : Goes from now job kept h
  pub falls : job_left job kept < job_left job k

-- the reply has ended, and with it each item of the job
pub record HasEnded (from now : Option Modelled) (job : Job) (number : ℕ) (k : JobItems) (old new : PartSinkState) :
    Type 0 where
  pub kept : JobItems
  pub is : KeptAt old new number kept
  pub items : AllEnd from job.kind job.items kept.done
  pub drained : IsDrained from now
  pub falls : job_left job kept < job_left job k

-- by the form of its bytes, or a wrong sum, only a link is lost that isn't honest
abbrev pub Blames : LostCause → Option Modelled → Type 0
Blames causes.Device from = Unit {0}
Blames (causes.Ended at) from = Unit {0}
Blames (causes.Form at) from = ¬ IsHonest from
Blames (causes.Sum known found) from = ¬ IsHonest from

-- a verdict on a frame
abbrev pub VerdictHolds : Verdict → Option Modelled → Option Modelled → Job → ℕ → Receiving → JobItems → PartSinkState →
    PartSinkState
    → Type 0
VerdictHolds verdicts.More from now job number h k old new = GoesOn from now job number h k old new
VerdictHolds verdicts.Ended from now job number h k old new = HasEnded from now job number k old new
VerdictHolds (verdicts.Lost cause) from now job number h k old new = (new ≡ old) × (¬ IsSteadyWorker from)
    × IsKnown cause × Blames cause from

-- why no more is taken
abbrev pub FaultHolds : ReplyFault → Option Modelled → Job → ℕ → PartSinkState → PartSinkState → Type 0
FaultHolds (faults.Unread item) from job index old new = (new ≡ old) × (item ≡ index)
    × ((i : Item) → slice_get job.items item ≡ Some i → UnreadBy from i)
FaultHolds faults.PartSink from job index old new = Rises old.faults new.faults
FaultHolds faults.NoMemory from job index old new = new.faults ≡ old.faults

-- what this frame leaves of each course that the reply may be in: the verdict holds
abbrev pub FrameLeaves : Verdict → Text → Job → ℕ → Receiving → Receiving → PartSinkState → PartSinkState → Type 0
FrameLeaves v frame job number h next s t =
    (from old new : Option Modelled) (k : JobItems) → At from old job number h s k → TakesPrefix old new frame
    → VerdictHolds v from new job number next k s t

-- why this frame wasn't taken, in each course that the reply may be in
abbrev pub FrameFails : ReplyFault → Text → Job → ℕ → Receiving → PartSinkState → PartSinkState → Type 0
FrameFails e frame job number h s t = (from old new : Option Modelled) (k : JobItems) → At from old job number h s k
    → TakesPrefix old new frame → FaultHolds e from job h.item s t

-- the same, whatever the link is still to give
abbrev pub ItemFails : ReplyFault → Job → ℕ → PartSinkState → PartSinkState → Type 0
ItemFails e job index s t = (from : Option Modelled) → FaultHolds e from job index s t

-- what the link's next frame leaves of each course that its reply may be in: the verdict holds
abbrev pub ReplyLeaves : Verdict → Job → ℕ → Receiving → Receiving → PartSinkState → PartSinkState → LinkState →
    LinkState → Type 0
ReplyLeaves v job number h next s t old new = (from : Option Modelled) (k : JobItems) → At from old.known job number h s
    k
    → VerdictHolds v from new.known job number next k s t

-- why the link's next frame wasn't taken, in each course that its reply may be in
abbrev pub ReplyFails : ReplyFault → Job → ℕ → Receiving → PartSinkState → PartSinkState → LinkState → Type 0
ReplyFails e job number h s t old = (from : Option Modelled) (k : JobItems) → At from old.known job number h s k
    → FaultHolds e from job h.item s t

-- the worker could not read an item
abbrev pub IsUnread : ReplyFault → Type 0
IsUnread (faults.Unread item) = Unit {0}
IsUnread faults.PartSink = ⊥
IsUnread faults.NoMemory = ⊥

-- while a link isn't lost, it counts no fault and no job
abbrev pub KeepsCounts : Verdict → LinkState → LinkState → Type 0
KeepsCounts (verdicts.Lost cause) old new = Unit {0}
KeepsCounts verdict old new = (new.faults ≡ old.faults) × (new.jobs ≡ old.jobs) × (new.reads ≡ old.reads)

-- After a frame of this size this many bytes of the reply were received. A link that is lost by the form of the frame
-- says so.
abbrev pub CountsFrame : Verdict → ℕ → ℕ → ℕ → Type 0
CountsFrame verdicts.More before size after = after ≡ min (before + size) (2 ^ 64 - 1)
CountsFrame verdicts.Ended before size after = after ≡ min (before + size) (2 ^ 64 - 1)
CountsFrame (verdicts.Lost causes.Device) before size after = ⊥
CountsFrame (verdicts.Lost (causes.Ended at)) before size after = ⊥
CountsFrame (verdicts.Lost (causes.Form at)) before size after = at ≡ min (before + size) (2 ^ 64 - 1)
CountsFrame (verdicts.Lost (causes.Sum known found)) before size after = after ≡ min (before + size) (2 ^ 64 - 1)

-- This many bytes of the reply are received with those that the link gave now. Where it is lost, the cause holds: its
-- count of faults rose, or the cause says how many bytes were received to the end of its bytes, or to the end of
-- those that aren't a reply.
abbrev pub ReceivedOf : Verdict → ℕ → ℕ → LinkState → LinkState → Type 0
ReceivedOf verdicts.More before after old new = HasReceived before after old new
ReceivedOf verdicts.Ended before after old new = HasReceived before after old new
ReceivedOf (verdicts.Lost causes.Device) before after old new = Rises old.faults new.faults
ReceivedOf (verdicts.Lost (causes.Ended at)) before after old new = HasReceived before at old new
ReceivedOf (verdicts.Lost (causes.Form at)) before after old new = HasReceived before at old new
ReceivedOf (verdicts.Lost (causes.Sum known found)) before after old new = HasReceived before after old new

-- the reply ends with the job's last item
abbrev pub after_end : Job → ℕ → Verdict
after_end job item = if item + 1 == length job.items then verdicts.Ended else verdicts.More
