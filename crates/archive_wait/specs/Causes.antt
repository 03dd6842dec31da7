-- Why a wait for segments ends without them.
use Rattle.std.specs.Prelude.{◌≡◌, ℕ, Option, IfSome, string_bytes}
use Rattle.base_devices.specs.Cause.{Rises}
use Rattle.base_devices.specs.Content.{Content}
use Rattle.base_devices.specs.States.{DiskState}
use Rattle.base_model.specs.declared.wal.ArchiveId.{ArchiveId}
use Rattle.base_model.specs.declared.wal.ArchiveName.TheVariants.{Segment as Whole}
use Rattle.base_model.specs.declared.wal.Segment.{Segment}
use Rattle.base_model.specs.declared.wal.WalPart.{WalPart}
use Rattle.base_model.specs.Repository.{IsWithinSpan}
use Rattle.base_model.specs.Text.{Text}
use Rattle.archive_lookup.specs.Causes.{PresentCause}
use Rattle.archive_lookup.specs.Stored.{StoresTwo}
use Rattle.archive_lookup.specs.Turns.{ProcessesState}
use Rattle.archive_lookup.specs.declared.stored.fault.ArchiveFault.{ArchiveFault}
use Rattle.archive_lookup.specs.declared.pushes.processes.TurnError.{TurnError}
use Rattle.archive_lookup.specs.declared.pushes.processes.TurnError.TheVariants as stops
use Rattle.archive_wait.specs.declared.fault.AwaitFault.{AwaitFault}
use Rattle.archive_wait.specs.declared.fault.AwaitFault.TheVariants.{NotArrived, Ambiguous, Repo, Spool, NoMemory}
use Rattle.archive_wait.specs.Stored.{IsFirstMissing}
use Rattle.archive_wait.specs.TurnsDone.{Counts}

-- the fault that a failed step of others becomes
abbrev pub fault_of_turn : TurnError → AwaitFault
fault_of_turn stops.Repo = Repo
fault_of_turn stops.Spool = Spool
fault_of_turn stops.NoMemory = NoMemory

-- why it isn't known whether a segment is stored
abbrev pub LookCause : Text → ArchiveId → Segment → Option Content → Type 0 → AwaitFault → Type 0
LookCause stanza id s now rose (Ambiguous first second) =
    IfSome now (λ f. StoresTwo stanza id (Whole s) f (string_bytes first) (string_bytes second))
LookCause stanza id s now rose Repo = rose
LookCause stanza id s now rose NoMemory = Unit {0}
LookCause stanza id s now rose other = ⊥

-- .. between these states
abbrev pub LookEnds : Text → ArchiveId → Segment → DiskState → DiskState → AwaitFault → Type 0
LookEnds stanza id s old new = LookCause stanza id s new.view.now (Rises old.faults new.faults)

-- the fault says of a look what the archive's says of it
abbrev pub IsFaultOfLook : ArchiveFault → AwaitFault → Type 0
IsFaultOfLook of_archive fault = (stanza : Text) (id : ArchiveId) (s : Segment) (now : Option Content)
    (before after : ℕ) → PresentCause stanza id (Whole s) now (Rises before after) of_archive
    → LookCause stanza id s now (Rises before after) fault

-- .. one of a part of the log
abbrev pub PartCause : Text → ArchiveId → WalPart → Option Content → Type 0 → AwaitFault → Type 0
PartCause stanza id w now rose fault =
    (s : Segment) × IsWithinSpan w.size.0 w.span s × LookCause stanza id s now rose fault

-- .. between these states
abbrev pub PartEnds : Text → ArchiveId → WalPart → DiskState → DiskState → AwaitFault → Type 0
PartEnds stanza id w old new = PartCause stanza id w new.view.now (Rises old.faults new.faults)

-- the repository or the spool failed, or memory did
abbrev pub TurnCause : Type 0 → Type 0 → AwaitFault → Type 0
TurnCause repo_rose spool_rose Repo = repo_rose
TurnCause repo_rose spool_rose Spool = spool_rose
TurnCause repo_rose spool_rose NoMemory = Unit {0}
TurnCause repo_rose spool_rose other = ⊥

-- .. between these states
abbrev pub TurnEnds : {D S : Type 0} → (D → DiskState) → (S → DiskState) → D → D → S → S → AwaitFault → Type 0
TurnEnds disk spooled repo new_repo spool new_spool = TurnCause
    (Rises (disk repo).faults (disk new_repo).faults) (Rises (spooled spool).faults (spooled new_spool).faults)

-- Why the wait ends: after this many steps of others a segment is missing, one is stored twice, or something failed.
abbrev pub WaitCause : Text → ArchiveId → WalPart → ℕ → Option Content → Type 0 → Type 0 → ℕ → ℕ → AwaitFault → Type 0
WaitCause stanza id w turns now repo_rose spool_rose before after (NotArrived s waited) =
    (waited ≡ turns) × Counts turns before after × IsWithinSpan w.size.0 w.span s
    × IfSome now (IsFirstMissing stanza id w s)
WaitCause stanza id w turns now repo_rose spool_rose before after (Ambiguous first second) =
    PartCause stanza id w now repo_rose (Ambiguous first second)
WaitCause stanza id w turns now repo_rose spool_rose before after Repo = repo_rose
WaitCause stanza id w turns now repo_rose spool_rose before after Spool = spool_rose
WaitCause stanza id w turns now repo_rose spool_rose before after NoMemory = Unit {0}

-- .. between these states
abbrev pub WaitEnds : {A D S : Type 0} → (A → ProcessesState) → (D → DiskState) → (S → DiskState)
    → Text → ArchiveId → WalPart → ℕ → A → A → D → D → S → S → AwaitFault → Type 0
WaitEnds others disk spooled stanza id w turns old new repo new_repo spool new_spool =
    WaitCause stanza id w turns (disk new_repo).view.now
    (Rises (disk repo).faults (disk new_repo).faults) (Rises (spooled spool).faults (spooled new_spool).faults)
    (others old).turns (others new).turns
