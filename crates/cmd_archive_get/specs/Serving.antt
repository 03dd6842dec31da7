-- How a file of the archive is served: a segment in one pass, where nothing is at the temporary name.
use Rattle.std.specs.Prelude.{◌≡◌, ◌≢◌, ◌⊎◌, ◌<◌, ◌^◌, ℕ, Bool, true, false, List, Option, Some, None, Result, Ok, Err, option_map, IfSome, IsSome, IsSomeAnd, length, String, string_bytes}
use Rattle.std.specs.declared.alloc.Global.{Global}
use Rattle.sha1.specs.Sha1.{sha1}
use Rattle.base_text.specs.declared.sum.Sum.{Sum}
use Rattle.base_devices.specs.Cause.{Rises}
use Rattle.base_devices.specs.Content.{Content, SameBut}
use Rattle.base_devices.specs.Crash.{Leaves, IsAlikeAt}
use Rattle.base_devices.specs.Moments.{View}
use Rattle.base_devices.specs.States.{DiskState, DataFolderState}
use Rattle.base_devices.specs.DataFolder.{Nodes, file, with_node}
use Rattle.base_model.specs.declared.clusters.ClusterId.{ClusterId}
use Rattle.base_model.specs.declared.wal.ArchiveId.{ArchiveId}
use Rattle.base_model.specs.declared.wal.ArchiveName.{ArchiveName}
use Rattle.base_model.specs.Text.{Text}
use Rattle.base_model.specs.Walks.{IsSynced}
use Rattle.repo_stanza.specs.declared.control.Control.{Control}
use Rattle.archive_lookup.specs.declared.stored.fault.ArchiveFault.{ArchiveFault}
use Rattle.archive_lookup.specs.declared.stored.fault.ArchiveFault.TheVariants.{Ambiguous as AmbiguousOf, SegmentDamaged as DamagedOf, TooLong as LongOf, Disk as DiskOf}
use Rattle.archive_lookup.specs.Causes.{StoresBytes, GetCause as ArchiveCause}
use Rattle.archive_store.specs.Pushes.{IsPathOf}
use Rattle.archive_lookup.specs.Stored.{StoresNone}
use Rattle.cmd_types.specs.declared.stages.object.Object.{Object}
use Rattle.cmd_types.specs.declared.stages.object.Object.TheVariants.{Repo}
use Rattle.cmd_types.specs.declared.stages.halt.Halt.{Halt}
use Rattle.cmd_types.specs.declared.stages.halt.Halt.TheVariants.{Refused, Failed, NoMemory}
use Rattle.cmd_types.specs.Risen.{none, rose_in}
use Rattle.cmd_archive_get.specs.declared.fault.GetFault.{GetFault}
use Rattle.cmd_archive_get.specs.declared.fault.GetFault.TheVariants.{Ambiguous, SegmentDamaged, TooLong}
use Rattle.cmd_archive_get.specs.declared.served_file.Copied.{Copied}
use Rattle.cmd_archive_get.specs.declared.served_file.Copied.TheVariants.{Whole, Long, Vanished}
use Rattle.cmd_archive_get.specs.declared.served_file.Passed.{Passed}
use Rattle.cmd_archive_get.specs.declared.served_file.Passed.TheVariants.{Served, Lost, Barred}
use Rattle.cmd_types.specs.Current.{id_kept}
use Rattle.cmd_archive_get.specs.Getting.{IsSame, IsPut, FoundIn, AbsentIn, RefusedIn}

-- ---- why a call stops

-- what a fault of the archive is
abbrev pub of_archive : ArchiveFault → Halt GetFault
of_archive (AmbiguousOf first second) = Refused (Ambiguous first second)
of_archive (DamagedOf known found) = Refused (SegmentDamaged known found)
of_archive (LongOf path limit) = Refused (TooLong path limit)
of_archive DiskOf = Failed Repo
of_archive other = NoMemory

-- whether the count of faults of the repository rose, and that of the data folder
abbrev pub RoseIn : Type 0 → Type 0 → Object → Type 0
RoseIn repo_rose tree_rose = rose_in (record none { repo = repo_rose; tree = tree_rose })

-- the repository or the data folder failed between these states
abbrev pub EitherFailed : DiskState → DiskState → DataFolderState → DataFolderState → Object → Type 0
EitherFailed repo new_repo tree new_tree =
    RoseIn (Rises repo.faults new_repo.faults) (Rises tree.faults new_tree.faults)

-- this holds where the call is refused for what it found
abbrev pub OnRefused : Halt GetFault → Type 0 → Type 0
OnRefused (Refused fault) P = P
OnRefused (Failed object) P = Unit {0}
OnRefused NoMemory P = Unit {0}

-- ---- a copy

-- nothing was at the name, and a file of these bytes is
pub record IsBegun (name bytes : Text) (old new : Option Nodes) : Type 0 where
  pub free : IfSome old (λ f. f name ≡ None)
  pub time : ℕ
  pub lies : new ≡ option_map (with_node name (Some (file bytes time))) old

-- what is known of the stored file
abbrev pub CopiedOf : Copied → Option Content → Text → Text → Type 0
CopiedOf (Whole sum) repo from bytes = IfSome repo (λ f. f from ≡ Some bytes) × (sum.0 ≡ sha1 bytes)
CopiedOf Long repo from bytes = IfSome repo (λ f. IsSomeAnd (f from) (λ all. 2 ^ 30 < length all))
CopiedOf Vanished repo from bytes = IfSome repo (λ f. f from ≡ None)

-- it was copied to a name where nothing was; none is reported where something was there
abbrev pub Copies : Result (Option Copied) (Halt GetFault) → Option Content → Text → Text → Option Nodes → Option Nodes
    → Type 0
Copies (Ok (Some copied)) repo from name old new =
    (bytes : Text) × CopiedOf copied repo from bytes × IsBegun name bytes old new
Copies (Ok None) repo from name old new = new ≡ old
Copies (Err halt) repo from name old new = SameBut name old new

-- ---- a pass

-- the stored file has these bytes, and they have the sum
abbrev pub AreStoredAt : Option Content → Text → Text → Text → Type 0
AreStoredAt repo from sum bytes = IfSome repo (λ f. f from ≡ Some bytes) × (sha1 bytes ≡ sum)

-- a stored file with this sum was put at the path; or the folder is unchanged
abbrev pub Passes : Result Passed (Halt GetFault) → Option Content → Text → Text → Text → Option Nodes → Option Nodes
    → Type 0
Passes (Ok Served) repo from sum path old new =
    (bytes : Text) × AreStoredAt repo from sum bytes × IfSome new (IsPut path bytes)
Passes (Ok Lost) repo from sum path old new = IfSome repo (λ f. f from ≡ None) × (new ≡ old)
Passes (Ok Barred) repo from sum path old new = new ≡ old
Passes (Err halt) repo from sum path old new = OnRefused halt (new ≡ old)

-- what is reported about a copy that isn't right
abbrev pub refusal : Copied → String Global → Sum → Result Passed (Halt GetFault)
refusal (Whole found) from sum = Err (Refused (SegmentDamaged sum found))
refusal Long from sum = Err (Refused (TooLong from (2 ^ 30)))
refusal Vanished from sum = Ok Lost

-- why a stored file with this sum isn't put there
abbrev pub PassCause : Option Content → Text → Text → GetFault → Type 0
PassCause repo from sum (SegmentDamaged known found) =
    (known.0 ≡ sum) × (found.0 ≢ known.0) × IfSome repo (λ f. IsSomeAnd (f from) (λ bytes. sha1 bytes ≡ found.0))
PassCause repo from sum (TooLong name limit) =
    (string_bytes name ≡ from) × (limit ≡ 2 ^ 30)
    × IfSome repo (λ f. IsSomeAnd (f from) (λ bytes. limit < length bytes))
PassCause repo from sum other = ⊥

-- ---- a file of the archive

-- these are its bytes under an id
abbrev pub AreBytes : Text → ArchiveId → ArchiveName → Option Content → Text → Type 0
AreBytes stanza id name repo bytes = IfSome repo (λ f. StoresBytes stanza id name f (sha1 bytes) bytes)

-- it isn't stored under the id
abbrev pub IsUnstored : Text → ArchiveId → ArchiveName → Option Content → Type 0
IsUnstored stanza id name repo = IfSome repo (StoresNone stanza id name)

-- what the repository held; or, where no name that is looked at was unsynced, what a crash leaves after the call
abbrev pub IsLeft : Text → View → View → Option Content → Type 0
IsLeft stanza old new repo = (repo ≡ old.now)
    ⊎ (IsSynced stanza old × IsSome old.now × ((g : Content) × (repo ≡ Some g) × Leaves new new.moment g))

-- where no name that is looked at was unsynced, all that a crash leaves is alike at the file's paths
abbrev pub EndsAlike : Text → ArchiveId → ArchiveName → View → View → Type 0
EndsAlike stanza id name old new = IsSynced stanza old → IsSome old.now → IsAlikeAt (IsPathOf stanza id name) new

-- its bytes under the id of a cluster, which is the data folder's
abbrev pub AreBytesUnder : ClusterId → Text → Control → ArchiveName → Option Content → Text → Type 0
AreBytesUnder cluster stanza known name repo bytes =
    IsSame known cluster × AreBytes stanza (id_kept cluster) name repo bytes

-- the cluster isn't the data folder's, or it isn't stored under its id
abbrev pub IsUnstoredUnder : ClusterId → Text → Control → ArchiveName → Option Content → Type 0
IsUnstoredUnder cluster stanza known name repo = IsSame known cluster → IsUnstored stanza (id_kept cluster) name repo

-- its bytes under the highest id of a history that has it
abbrev pub AreFoundIn : List ClusterId → Text → Control → ArchiveName → Option Content → Text → Type 0
AreFoundIn history stanza known name repo bytes = IfSome repo (FoundIn history stanza known name bytes)

-- no id of the history has it
abbrev pub IsAbsentIn : List ClusterId → Text → Control → ArchiveName → Option Content → Type 0
IsAbsentIn history stanza known name repo = IfSome repo (AbsentIn history stanza known name)

-- bytes of the kind were put at the path; or there are none, and the folder is unchanged, as after a refusal
abbrev pub Puts : Result Bool (Halt GetFault) → (Text → Type 0) → Type 0 → Text → Option Nodes → Option Nodes → Type 0
Puts (Ok true) IsOf missing path old new = (bytes : Text) × IsOf bytes × IfSome new (IsPut path bytes)
Puts (Ok false) IsOf missing path old new = missing × (new ≡ old)
Puts (Err halt) IsOf missing path old new = OnRefused halt (new ≡ old)

-- why it isn't served from under an id
abbrev pub FileCause : Text → ArchiveId → ArchiveName → Option Content → GetFault → Type 0
FileCause stanza id name repo (Ambiguous first second) = ArchiveCause stanza id name repo ⊥ (AmbiguousOf first second)
FileCause stanza id name repo (SegmentDamaged known found) = ArchiveCause stanza id name repo ⊥ (DamagedOf known found)
FileCause stanza id name repo (TooLong path limit) = ArchiveCause stanza id name repo ⊥ (LongOf path limit)
FileCause stanza id name repo other = ⊥

-- why it isn't served from under the id of a cluster, which is the data folder's
abbrev pub UnderCause : ClusterId → Text → Control → ArchiveName → Option Content → GetFault → Type 0
UnderCause cluster stanza known name repo fault =
    FileCause stanza (id_kept cluster) name repo fault × IsSame known cluster

-- why a search ends without an answer
abbrev pub SearchCause : List ClusterId → Text → Control → ArchiveName → Option Content → GetFault → Type 0
SearchCause history stanza known name repo (Ambiguous first second) =
    RefusedIn history stanza known name repo (AmbiguousOf first second)
SearchCause history stanza known name repo (SegmentDamaged sum found) =
    RefusedIn history stanza known name repo (DamagedOf sum found)
SearchCause history stanza known name repo (TooLong path limit) =
    RefusedIn history stanza known name repo (LongOf path limit)
SearchCause history stanza known name repo other = ⊥
