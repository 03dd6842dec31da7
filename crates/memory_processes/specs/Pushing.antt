-- The result of the push of a segment in a step of others, and how it is marked.
use Rattle.std.specs.Prelude.{◌≡◌, ◌⊎◌, ◌≤◌, ◌++◌, ℕ, Bool, true, false, List, [], ◌∷◌, Some, Result, Ok, Err, IfSome, IsSome, codes, string_bytes}
use Rattle.sha1.specs.Sha1.{sha1}
use Rattle.base_text.specs.Sum.{sum_text}
use Rattle.base_devices.specs.Content.{Content}
use Rattle.base_devices.specs.Moments.{View, is_unsynced}
use Rattle.base_devices.specs.Crash.{Leaves, Write, Crash, NowChanges, FirstOf, AllOf}
use Rattle.base_devices.specs.States.{DiskState}
use Rattle.base_disk.specs.declared.fault.StoreFault.{StoreFault}
use Rattle.base_disk.specs.declared.fault.StoreFault.TheVariants.{Disk as StoreDisk, TooLong, NoMemory as StoreNoMemory}
use Rattle.base_model.specs.declared.wal.ArchiveId.{ArchiveId}
use Rattle.base_model.specs.declared.wal.ArchiveName.{ArchiveName}
use Rattle.base_model.specs.declared.wal.ArchiveName.TheVariants.{Segment as Whole}
use Rattle.base_model.specs.declared.wal.Segment.{Segment}
use Rattle.base_model.specs.Text.{Text, ◌⫽◌}
use Rattle.base_model.specs.Names.{archive_folder, archive_name, receipt_name}
use Rattle.base_model.specs.Represents.{IsWalName}
use Rattle.base_model.specs.Steps.{Turn}
use Rattle.base_model.specs.Log.{Done, HasReceipt, KeepsRepository}
use Rattle.base_model.specs.Repository.{Repository}
use Rattle.base_model.specs.Steady.{IsBegun}
use Rattle.archive_lookup.specs.Stored.{Stores}
use Rattle.archive_lookup.specs.declared.pushes.processes.TurnError.{TurnError}
use Rattle.archive_lookup.specs.declared.pushes.processes.TurnError.TheVariants.{Repo, Spool, NoMemory}
use Rattle.archive_lookup.specs.declared.stored.fault.ArchiveFault.{ArchiveFault}
use Rattle.archive_lookup.specs.declared.stored.fault.ArchiveFault.TheVariants.{Disk, NoMemory as ArchiveNoMemory}
use Rattle.archive_store.specs.declared.pushing.Pushed.{Pushed}
use Rattle.memory_processes.specs.declared.pushing.PushResult.{PushResult}
use Rattle.memory_processes.specs.declared.pushing.PushResult.TheVariants.{Nothing, Stored, Tried, Refused}
use Rattle.memory_processes.specs.declared.pushing.MarkNames.{MarkNames}
use Rattle.archive_lookup.specs.Turns.{HadReceipt, GoesByTurn, LeavesMarks}

-- the result of a push that answered so: a file that is refused for its content is passed over
abbrev pub went_of : Result Pushed ArchiveFault → PushResult
went_of (Ok pushed) = Stored
went_of (Err Disk) = Tried Repo
went_of (Err ArchiveNoMemory) = Tried NoMemory
went_of (Err fault) = Nothing

-- the result of a fault of the spool
abbrev pub spool_stop_of : StoreFault → TurnError
spool_stop_of StoreDisk = Spool
spool_stop_of (TooLong name limit) = NoMemory
spool_stop_of StoreNoMemory = NoMemory

-- whether the file was pushed, or may have been
abbrev pub was_tried : PushResult → Bool
was_tried Nothing = false
was_tried Stored = true
was_tried (Tried stop) = true
was_tried (Refused stop) = false

-- a step of others with this result may end so
abbrev pub MayEnd : PushResult → Bool → Type 0
MayEnd Nothing ended = Unit {0}
MayEnd Stored ended = Unit {0}
MayEnd (Tried stop) ended = ended ≡ false
MayEnd (Refused stop) ended = Unit {0}

-- a fact for a file that was stored
abbrev pub IfStored : PushResult → Type 0 → Type 0
IfStored Nothing P = Unit {0}
IfStored Stored P = P
IfStored (Tried stop) P = Unit {0}
IfStored (Refused stop) P = Unit {0}

-- a failure is the repository's where its count rose, and never the spool's
abbrev pub IsRepoFault : Type 0 → TurnError → Type 0
IsRepoFault rose Repo = rose
IsRepoFault rose Spool = ⊥
IsRepoFault rose NoMemory = Unit {0}

abbrev pub IsSpoolFault : Type 0 → TurnError → Type 0
IsSpoolFault rose Repo = ⊥
IsSpoolFault rose Spool = rose
IsSpoolFault rose NoMemory = Unit {0}

abbrev pub IfDeviceError : PushResult → (TurnError → Type 0) → Type 0
IfDeviceError Nothing P = Unit {0}
IfDeviceError Stored P = Unit {0}
IfDeviceError (Tried stop) P = P stop
IfDeviceError (Refused stop) P = P stop

-- why a step of others with this result is refused: the mark failed, or the push did
abbrev pub StopsBy : PushResult → Type 0 → TurnError → Type 0
StopsBy Nothing rose stop = ⊥
StopsBy Stored rose stop = IsSpoolFault rose stop
StopsBy (Tried cause) rose stop = stop ≡ cause
StopsBy (Refused cause) rose stop = stop ≡ cause

-- the step of others, with the file or without
abbrev pub turn_of : ArchiveId → Segment → Text → Bool → Bool → Turn
turn_of id segment bytes true ended =
    record { id = id; pushed = record { name = Whole segment; bytes = bytes } ∷ []; ended = ended }
turn_of id segment bytes false ended = record { id = id; pushed = []; ended = ended }

-- the text of a receipt: the digits of the sum, and a newline
abbrev pub receipt_text : Text → Text
receipt_text bytes = sum_text (sha1 bytes) ++ 10 ∷ []

-- the marks that it left where it succeeded
abbrev pub marks_of : Text → Segment → Text → Bool → Bool → List Write
marks_of stanza segment bytes true true = (receipt_name stanza (Whole segment), receipt_text bytes) ∷ []
marks_of stanza segment bytes true false = []
marks_of stanza segment bytes false ended = []

-- the disk has the segment with this sum, and all that a crash now leaves
abbrev pub HasFile : Text → ArchiveId → Segment → Text → View → Type 0
HasFile stanza id segment sum v = (f : Content) → Leaves v v.moment f
    → (bytes : Text) × (f (archive_name stanza id (Whole segment) (sum_text sum)) ≡ Some bytes) × (sha1 bytes ≡ sum)

-- the names and the text of a mark
pub record AreMarkNamesOf (stanza : Text) (segment : Segment) (bytes : Text) (names : MarkNames) : Type 0 where
  pub name : string_bytes names.name ≡ receipt_name stanza (Whole segment)
  pub temporary : string_bytes names.temporary ≡ archive_folder stanza ⫽ codes "out" ⫽ codes ".pgbackrest.tmp"
  pub text : string_bytes names.text ≡ receipt_text bytes

-- at each moment each receipt is an earlier one, or the stored segment's
pub record GivesReceipt (stanza : Text) (segment : Segment) (bytes : Text) (went : PushResult) (old new : View) : Type 0
  where
    pub each : IsSome old.now → is_unsynced old (receipt_name stanza (Whole segment)) ≡ false → (m : ℕ) (f : Content)
        → old.moment ≤ m → m ≤ new.moment → Leaves new m f →
        (name : ArchiveName) (sum : Text) → IsWalName name → HasReceipt stanza f name sum
        → HadReceipt stanza old name sum ⊎ ((went ≡ Stored) × (name ≡ Whole segment) × (sum ≡ sha1 bytes))

-- ---- between two states of a disk

-- where the repository kept a log, all that a crash leaves represents what the log reaches
abbrev pub BeginsLog : Text → DiskState → DiskState → Type 0
BeginsLog stanza old new = (q : Repository) (log : List Done) → KeepsRepository stanza q log old.view
    → IsSome old.view.now → IsBegun stanza q log new.view

-- where the answer is yes, the repository stores the segment
abbrev pub StoresIfThere : Text → ArchiveId → Segment → DiskState → Bool → Type 0
StoresIfThere stanza id segment repo there = there ≡ true
    → IfSome repo.view.now (λ f. (sum : Text) × Stores stanza id (Whole segment) f sum)

-- the repository changes as by a step of others with this result, however that may end
abbrev pub TurnsByPush : Text → ArchiveId → Segment → Text → PushResult → DiskState → DiskState → Type 0
TurnsByPush stanza id segment bytes went old new = (ended : Bool) → MayEnd went ended
    → GoesByTurn stanza (turn_of id segment bytes (was_tried went) ended) old.view new.view

-- where the repository kept a log it has the segment, and so has all that a crash leaves
abbrev pub HoldsFile : Text → ArchiveId → Segment → Text → DiskState → DiskState → Type 0
HoldsFile stanza id segment bytes old new = (q : Repository) (log : List Done) → IsSome old.view.now
    → KeepsRepository stanza q log old.view → HasFile stanza id segment (sha1 bytes) new.view

-- the segment's receipt is put or not, in all that a crash leaves too, where its name wasn't unsynced
abbrev pub MayPutReceipt : Text → Segment → Text → DiskState → DiskState → Type 0
MayPutReceipt stanza segment bytes old new = is_unsynced old.view (receipt_name stanza (Whole segment)) ≡ false
    → Crash (FirstOf ((receipt_name stanza (Whole segment), receipt_text bytes) ∷ [])) old.view new.view

-- it is put
abbrev pub PutsReceipt : Text → Segment → Text → DiskState → DiskState → Type 0
PutsReceipt stanza segment bytes old new =
    NowChanges (AllOf ((receipt_name stanza (Whole segment), receipt_text bytes) ∷ [])) old.view.now new.view.now

-- at each moment each receipt is an earlier one, or the stored segment's
abbrev pub GivesMark : Text → Segment → Text → PushResult → DiskState → DiskState → Type 0
GivesMark stanza segment bytes went old new = GivesReceipt stanza segment bytes went old.view new.view

-- the spool has the marks of a step of others with this result
abbrev pub LeavesMark : Text → Segment → Text → PushResult → DiskState → DiskState → Type 0
LeavesMark stanza segment bytes went old new =
    LeavesMarks stanza (marks_of stanza segment bytes (was_tried went) true) old.view.now new.view.now
