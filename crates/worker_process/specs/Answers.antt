-- What a worker answers to a job, where the roots say what they hold (own).
use Rattle.std.specs.Prelude.{◌≡◌, ◌⊎◌, ◌<◌, ℕ, Bool, true, false, List, [], ◌∷◌, ◌++◌, length, take, drop, Option, Some, None, Result, Ok, Err, IsSome, IsSomeAnd, IfOk}
use Rattle.std.specs.List.{flat_map, AllByRecursion}
use Rattle.base_devices.specs.Content.{Content, Value}
use Rattle.base_model.specs.Text.{Text}
use Rattle.worker_process.specs.declared.serve_fault.ServeFault.{ServeFault}
use Rattle.worker_protocol.specs.declared.frames.frames.Root.{Root}
use Rattle.worker_protocol.specs.declared.frames.frames.Root.TheVariants.{DataFolder, Repo}
use Rattle.worker_protocol.specs.declared.frames.frames.JobKind.{JobKind}
use Rattle.worker_protocol.specs.declared.frames.frames.JobKind.TheVariants.{Read, Digest}
use Rattle.worker_protocol.specs.Frames.{Item, Job, Frame, spell, part_size}
use Rattle.worker_protocol.specs.Frames.Frame.{Part, Unread}
use Rattle.worker_protocol.specs.Replies.{payload, files_of, absent_reply, item_reply, replies}
use Rattle.worker_process.specs.Writing.{IsWritten, IsPrefixWritten, Writes}

-- what filling a buffer from a place on gives: none where the file is absent, else all that is there and fits
abbrev pub Fills : Value → ℕ → Text → Option ℕ → Type 0
Fills None at new answer = answer ≡ None
Fills (Some bytes) at new answer = IsSomeAnd answer (λ n. take n new ≡ take (length new) (drop at bytes))

-- the same for the next part of an item, of which this many bytes are reported, after the room for its head
abbrev pub FillsPart : Value → Item → ℕ → Text → Option ℕ → Type 0
FillsPart None item known room answer = answer ≡ None
FillsPart (Some bytes) item known room answer =
    IsSomeAnd answer (λ n. take n (drop 5 room) ≡ take part_size (drop known (payload item bytes)))

-- the next part of these bytes, where one shorter than a part may be was the last
abbrev pub IsNextPart : Text → ℕ → Text → ℕ → Type 0
IsNextPart more last room n = (last < part_size → more ≡ []) → take n room ≡ take part_size more

-- the frames of a part in the reply to a job of this kind
abbrev pub part_frames : JobKind → Text → List Frame
part_frames Read bytes = Part bytes ∷ []
part_frames Digest bytes = []

-- the reply continues after such an item
abbrev pub GoesOn : Root → Value → Type 0
GoesOn root value = IsSome value ⊎ (root ≡ DataFolder)

-- some first of the frames, and then `U`
pub record IsStopped (whole frames : List Frame) : Type 0 where
  pub count : ℕ
  pub is : frames ≡ take count whole ++ Unread ∷ []

-- The frames that answer an item, and whether the reply continues after them. They are its reply, unless a call on its
-- root failed.
abbrev pub AnswersItem : JobKind → Item → Value → Type 0 → Bool → List Frame → Type 0
AnswersItem kind i value failed true frames = (frames ≡ item_reply kind i value []) × GoesOn i.root value
AnswersItem kind i value failed false frames =
    ((frames ≡ item_reply kind i value []) × (value ≡ None) × (i.root ≡ Repo))
    ⊎ (failed × IsStopped (item_reply kind i value []) frames)

-- At `Ok` the frames that answer an item were written. At an `Err` a first part of their bytes was.
abbrev pub KnownItem : JobKind → Item → Value → Type 0 → Result Bool ServeFault → Option Text → Option Text → Type 0
KnownItem kind i value failed (Ok goes) old new = (frames : List Frame) × AnswersItem kind i value failed goes frames
    × IsWritten old (flat_map spell frames) new
KnownItem kind i value failed (Err e) old new = (goes : Bool) × (frames : List Frame)
    × AnswersItem kind i value failed goes frames × IsPrefixWritten old (flat_map spell frames) new

-- At `Ok` the answer is whether the reply continues.
abbrev pub Shows : List Frame → Bool → Result Bool ServeFault → Option Text → Option Text → Type 0
Shows frames goes result old new = Writes result frames old new × IfOk result (λ b. b ≡ goes)

-- `U` alone
abbrev pub KnownUnread : Result Bool ServeFault → Option Text → Option Text → Type 0
KnownUnread = Shows (Unread ∷ []) false

-- the reply to an absent file
abbrev pub KnownAbsent : Root → Result Bool ServeFault → Option Text → Option Text → Type 0
KnownAbsent DataFolder = Shows (absent_reply DataFolder []) true
KnownAbsent Repo = Shows (absent_reply Repo []) false

-- ---- a job

-- what belongs to a root
abbrev pub of_root : {X : Type 0} → Root → X → X → X
of_root DataFolder tree repo = tree
of_root Repo tree repo = repo

-- what the roots hold of an item
abbrev pub value_of : Content → Content → Item → Value
value_of tree repo i = files_of i.root tree repo i.path

-- The answer breaks off at an item: the reply to the items before it, some first frames of its own reply, and `U`. A
-- call on its root failed.
pub record BreaksOff (job : Job) (tree repo : Content) (Failed : Root → Type 0) (frames : List Frame) : Type 0 where
  pub past : List Item
  pub item : Item
  pub later : List Item
  pub items : job.items ≡ past ++ item ∷ later
  pub reached : AllByRecursion (λ i. GoesOn i.root (value_of tree repo i)) past
  pub own : List Frame
  pub stopped : IsStopped (item_reply job.kind item (value_of tree repo item) []) own
  pub is : frames ≡ replies job.kind past tree repo ++ own
  pub failed : Failed item.root

-- the frames that answer a job: its reply, unless a call failed
abbrev pub AnswersJob : Job → Content → Content → (Root → Type 0) → List Frame → Type 0
AnswersJob job tree repo Failed frames = (frames ≡ replies job.kind job.items tree repo)
    ⊎ BreaksOff job tree repo Failed frames

-- At `Ok` the frames that answer a job were written. At an `Err` a first part of their bytes was.
pub record KnownJob (job : Job) (tree repo : Content) (Failed : Root → Type 0) (result : Result (Unit {0}) ServeFault)
    (old new : Option Text) : Type 0 where
  pub frames : List Frame
  pub answers : AnswersJob job tree repo Failed frames
  pub writes : Writes result frames old new
