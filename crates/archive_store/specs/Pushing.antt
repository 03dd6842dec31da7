-- What a push of a file that is read in pieces answers and leaves.
use Rattle.std.specs.Prelude.{◌≡◌, ◌≢◌, ◌⊎◌, ◌∷◌, [], ℕ, false, Option, Result, IfOk, IsSome, IfSome, string_bytes}
use Rattle.sha1.specs.Sha1.{sha1}
use Rattle.base_text.specs.Sum.{IsSum}
use Rattle.base_text.specs.declared.sum.Sum.{Sum}
use Rattle.base_devices.specs.Content.{Name, Content}
use Rattle.base_devices.specs.Moments.{View, is_unsynced}
use Rattle.base_devices.specs.Cause.{Rises}
use Rattle.base_devices.specs.Crash.{Crash, Ends, NowChanges, FirstOf, AllOf}
use Rattle.base_devices.specs.States.{DiskState, DiskFailed, Works}
use Rattle.base_disk.specs.Staged.{PutsBytes}
use Rattle.base_disk.specs.Store.{LiesIn, ChangesOnly}
use Rattle.base_model.specs.declared.wal.ArchiveId.{ArchiveId}
use Rattle.base_model.specs.declared.wal.ArchiveName.{ArchiveName}
use Rattle.base_model.specs.Text.{Text}
use Rattle.base_model.specs.Represents.{IsArchivePlace}
use Rattle.repo_names.specs.Header.{BeginsWith}
use Rattle.archive_lookup.specs.declared.stored.fault.ArchiveFault.{ArchiveFault}
use Rattle.archive_lookup.specs.declared.stored.fault.ArchiveFault.TheVariants.{Duplicate, Disk, NoMemory}
use Rattle.archive_lookup.specs.declared.stored.names.FileNames.{FileNames}
use Rattle.archive_lookup.specs.declared.stored.stored_lookup.StoredFile.{StoredFile}
use Rattle.archive_store.specs.declared.fault.PushFault.{PushFault}
use Rattle.archive_store.specs.declared.pieces.Prefix.{Prefix}
use Rattle.archive_store.specs.declared.fault.PushFault.TheVariants.{Archive, Source}
use Rattle.archive_store.specs.declared.pushing.Pushed.{Pushed}
use Rattle.archive_store.specs.declared.pushing.Pushed.TheVariants.{New, Same}
use Rattle.archive_lookup.specs.Stored.{StoresNone, StoresOnly}
use Rattle.archive_lookup.specs.Causes.{IsFileOf, HeaderCause, PushCause, Rejects, OnFinding}
use Rattle.archive_lookup.specs.OnlyReads.{path_with}
use Rattle.archive_store.specs.ByteSource.{IsReadFrom}
use Rattle.archive_store.specs.Pushes.{writes_of}

-- ---- what it answers

-- the bytes that were read are such a file and have this sum; it was stored nowhere and they are put at its path, or it
-- was stored with their sum alone and nothing is changed
pub record IsPushedAs (stanza : Text) (id : ArchiveId) (name : ArchiveName) (system : ℕ) (model : Option Text)
    (first : Text) (count : ℕ) (old now : Option Content) (pushed : Pushed) (sum : Sum) : Type 0 where
  pub bytes : Text
  pub read : IsReadFrom model first count bytes
  pub summed : sum.0 ≡ sha1 bytes
  pub of_system : IsFileOf name bytes system
  pub new : pushed ≡ New → IfSome old (StoresNone stanza id name)
      × NowChanges (AllOf (writes_of stanza id name bytes)) old now
  pub same : pushed ≡ Same → IfSome old (λ f. StoresOnly stanza id name f (sha1 bytes)) × (now ≡ old)

-- the same on this disk
abbrev pub AnswersPush : Text → ArchiveId → ArchiveName → ℕ → Option Text → Prefix → DiskState → DiskState → Pushed
    → Sum → Type 0
AnswersPush stanza id name system model prefix old new pushed sum = IsPushedAs stanza id name system
    model prefix.bytes.now prefix.length old.view.now new.view.now pushed sum

-- why a file that is read in pieces isn't stored: the cause is that of the bytes that were read, or the source failed
abbrev pub PushFromCause : Text → ArchiveId → ArchiveName → ℕ → Option Text → Text → ℕ → Option Content → Type 0
    → Type 0 → PushFault → Type 0
PushFromCause stanza id name system model first count now rose source_rose (Archive fault) = (bytes : Text)
    × IsReadFrom model first count bytes × PushCause stanza id name system bytes now rose fault
PushFromCause stanza id name system model first count now rose source_rose Source = source_rose

-- the same on this disk, where the source's count of faults went from the one number to the other
abbrev pub PushFromFails : Text → ArchiveId → ArchiveName → ℕ → Option Text → Prefix → DiskState → DiskState → ℕ → ℕ
    → PushFault → Type 0
PushFromFails stanza id name system model prefix old new before now fault = PushFromCause stanza id name system
    model prefix.bytes.now prefix.length old.view.now (DiskFailed old new) (Rises before now) fault

-- this holds where the fault is what was found, and nothing failed
abbrev pub OnPushFinding : PushFault → Type 0 → Type 0
OnPushFinding (Archive fault) P = OnFinding fault P
OnPushFinding Source P = Unit {0}

-- why bytes aren't put: the disk failed, memory did, or the source did
abbrev pub DeviceCause : Type 0 → Type 0 → PushFault → Type 0
DeviceCause rose source_rose (Archive Disk) = rose
DeviceCause rose source_rose (Archive NoMemory) = Unit {0}
DeviceCause rose source_rose (Archive fault) = ⊥
DeviceCause rose source_rose Source = source_rose

-- the same on this disk, where the source's count of faults went from the one number to the other
abbrev pub NotPut : DiskState → DiskState → ℕ → ℕ → PushFault → Type 0
NotPut old new before now fault = DeviceCause (DiskFailed old new) (Rises before now) fault

-- ---- how it comes to its answer

-- bytes that begin so are those of a file of this name, in the cluster with this system identifier
abbrev pub AreOfSystem : ArchiveName → ℕ → Text → ℕ → Type 0
AreOfSystem name system first count = (bytes : Text) → BeginsWith first count bytes → IsFileOf name bytes system

-- bytes that begin so are refused as those of a file of this name
abbrev pub AreNotOfSystem : ArchiveName → ℕ → Prefix → ArchiveFault → Type 0
AreNotOfSystem name system prefix fault = (bytes : Text) → BeginsWith prefix.bytes.now prefix.length bytes
    → HeaderCause name bytes system fault

-- a push of bytes that begin so is refused
abbrev pub Declines : Text → ArchiveId → ArchiveName → ℕ → Prefix → DiskState → DiskState → ArchiveFault → Type 0
Declines stanza id name system prefix old new fault = (bytes : Text)
    → BeginsWith prefix.bytes.now prefix.length bytes → Rejects stanza id name system bytes old new fault

-- with each sum the file has a place in the archive
abbrev pub HasPlaces : ArchiveId → ArchiveName → Type 0
HasPlaces id name = (sum : Text) → IsSum sum → IsArchivePlace id name sum

-- the bytes that were read have this sum
abbrev pub ReadsSum : Option Text → Text → ℕ → Text → Type 0
ReadsSum model first count sum = (bytes : Text) × IsReadFrom model first count bytes × (sum ≡ sha1 bytes)

-- the same for bytes that begin so
abbrev pub ReadsToSum : Option Text → Prefix → Text → Type 0
ReadsToSum model prefix sum = ReadsSum model prefix.bytes.now prefix.length sum

-- why bytes aren't found to have the sum of a stored file: they have another, or they weren't read
abbrev pub OtherCause : Option Text → Text → ℕ → Text → Type 0 → PushFault → Type 0
OtherCause model first count sum source_rose (Archive (Duplicate kept found)) = (kept.0 ≡ sum) × (found.0 ≢ kept.0)
    × ReadsSum model first count found.0
OtherCause model first count sum source_rose (Archive NoMemory) = Unit {0}
OtherCause model first count sum source_rose (Archive fault) = ⊥
OtherCause model first count sum source_rose Source = source_rose

-- the same for a stored file, where the source's count of faults went from the one number to the other
abbrev pub OtherFails : Option Text → Prefix → StoredFile → ℕ → ℕ → PushFault → Type 0
OtherFails model prefix kept before now fault =
    OtherCause model prefix.bytes.now prefix.length kept.sum.0 (Rises before now) fault

-- ---- what it leaves

-- the bytes are put at the path at most, in what the disk holds and in what a crash may leave
pub record PutsPart (path : Name) (bytes : Text) (old new : View) : Type 0 where
  pub now : NowChanges (FirstOf ((path, bytes) ∷ [])) old.now new.now
  pub crash : IsSome old.now → is_unsynced old path ≡ false → Crash (FirstOf ((path, bytes) ∷ [])) old new

-- they are put there
pub record PutsWhole (path : Name) (bytes : Text) (old new : View) : Type 0 where
  pub now : NowChanges (AllOf ((path, bytes) ∷ [])) old.now new.now
  pub ends : IsSome old.now → is_unsynced old path ≡ false → Ends (AllOf ((path, bytes) ∷ [])) old new

-- the bytes that were read are put at the file's path with their sum at most, and are at Ok
abbrev pub Saves : Result Sum PushFault → Option Text → Prefix → FileNames → DiskState → DiskState → Type 0
Saves result model prefix names old new = (bytes : Text) × IsReadFrom model prefix.bytes.now prefix.length bytes
    × PutsPart (path_with names (sha1 bytes)) bytes old.view new.view
    × IfOk result (λ sum. (sum.0 ≡ sha1 bytes) × PutsWhole (path_with names (sha1 bytes)) bytes old.view new.view)

-- ---- how the bytes come to the disk

-- the bytes that were read have this sum, and the disk holds them at the name
abbrev pub StagesAs : Option Text → Prefix → Name → DiskState → DiskState → Sum → Type 0
StagesAs model prefix name old new sum = (bytes : Text) × IsReadFrom model prefix.bytes.now prefix.length bytes
    × (sum.0 ≡ sha1 bytes) × PutsBytes name bytes old new

-- and this is the file's path with their sum
abbrev pub StagesFile : Option Text → Prefix → FileNames → DiskState → DiskState → Sum → Name → Type 0
StagesFile model prefix names old new sum path = (bytes : Text)
    × IsReadFrom model prefix.bytes.now prefix.length bytes × (sum.0 ≡ sha1 bytes)
    × (path ≡ path_with names (sha1 bytes)) × PutsBytes (string_bytes names.temporary) bytes old new

-- the disk holds these bytes at the name, where what it holds is known
abbrev pub HoldsAt : Name → Text → DiskState → Type 0
HoldsAt name bytes disk = PutsBytes name bytes disk disk

-- a call that adds any value at the name, which may become unsynced
abbrev pub WorksAt : Name → DiskState → DiskState → Type 0
WorksAt name old new = Works (λ n _. n ≡ name) (λ n. n ≡ name) old new

-- each path of the file lies in one folder with the name for bytes that are still to be stored
abbrev pub ShareFolders : FileNames → Type 0
ShareFolders names = (sum : Text)
    → (folder : Name) × LiesIn folder (string_bytes names.temporary) × LiesIn folder (path_with names sum)

-- only one of its paths is changed, and that name
abbrev pub ChangesOnePath : FileNames → DiskState → DiskState → Type 0
ChangesOnePath names old new = (sum : Text)
    × ChangesOnly (λ n. (n ≡ string_bytes names.temporary) ⊎ (n ≡ path_with names sum)) old.view new.view
