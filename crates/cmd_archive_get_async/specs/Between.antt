-- What archive-get with archive-async and its parts do between two states of the repository, of the spool, of the data
-- folder and of other processes. `others`, `disk`, `spooled` and `folder` say what is known of each.
use Rattle.std.specs.List.{starts_with}
use Rattle.std.specs.Prelude.{◌≡◌, ◌<◌, ℕ, Bool, true, false, List, All, Option, Some, None, Result, IfErr, IfOk, IfSome, IsSome, IsTrue, OnOk, get_or, length, nat_eq, option_map, string_bytes, String}
use Rattle.std.specs.declared.alloc.Global.{Global}
use Rattle.base_devices.specs.Cause.{Rises}
use Rattle.base_devices.specs.Content.{Content, Name}
use Rattle.base_devices.specs.Crash.{Leaves}
use Rattle.base_devices.specs.States.{DiskState, DataFolderState, Works}
use Rattle.base_devices.specs.declared.disk.Found.{Found}
use Rattle.base_disk.specs.Dropped.{Drops, IsAbsent}
use Rattle.base_model.specs.declared.wal.ArchiveId.{ArchiveId}
use Rattle.base_model.specs.declared.wal.ArchiveName.{ArchiveName}
use Rattle.base_model.specs.declared.wal.ArchiveName.TheVariants.{Segment as Whole}
use Rattle.base_model.specs.declared.wal.Segment.{Segment}
use Rattle.base_model.specs.Now.{NowRepresents}
use Rattle.base_model.specs.Repository.{Stanza}
use Rattle.base_model.specs.Text.{Text}
use Rattle.base_model.specs.Walks.{IsSynced}
use Rattle.repo_stanza.specs.declared.control.Control.{Control}
use Rattle.archive_lookup.specs.declared.stored.files.Stored.{Stored}
use Rattle.archive_lookup.specs.Listing.{sum_after}
use Rattle.archive_lookup.specs.Stored.{Finds}
use Rattle.archive_lookup.specs.Turns.{ProcessesState}
use Rattle.cmd_types.specs.declared.stages.halt.Halt.{Halt}
use Rattle.cmd_types.specs.declared.stages.object.Object.{Object}
use Rattle.cmd_types.specs.declared.stages.object.Object.TheVariants.{Spool}
use Rattle.cmd_types.specs.declared.stages.outcome.Outcome.{Outcome}
use Rattle.cmd_types.specs.DisksEffect.{PairAlike}
use Rattle.cmd_types.specs.Halts.{HaltCause, Never, Only}
use Rattle.cmd_types.specs.Risen.{none, rose_in}
use Rattle.cmd_archive_get.specs.declared.fault.GetFault.{GetFault}
use Rattle.cmd_archive_get.specs.declared.order.GetOrder.{GetOrder}
use Rattle.cmd_archive_get.specs.Getting.{served_path, ChangesPath, GivenBy}
use Rattle.cmd_archive_get.specs.Looking.{IsKeptAs}
use Rattle.cmd_archive_get.specs.Serving.{AreStoredAt, FileCause, PassCause}
use Rattle.cmd_archive_get_async.specs.declared.ahead.spool_copy.Copied.{Copied}
use Rattle.cmd_archive_get_async.specs.Fetching.{most_ahead, IsFetched, AheadCause, CopiedTo, PutsAhead, FetchesOne, FetchesNext, NextCause}
use Rattle.cmd_archive_get_async.specs.Following.{Starts}
use Rattle.cmd_archive_get_async.specs.FollowUp.{FollowUpCause, FetchedBy, FetchesAfter}
use Rattle.cmd_archive_get_async.specs.Getting.{GetAheadCause, GivenAs, GotAhead, IsServedBySum, NoTwins, ServedAs}
use Rattle.cmd_archive_get_async.specs.Names.{ahead_name, ahead_prefix, lacking, ChangesWithin}
use Rattle.cmd_archive_get_async.specs.Taking.{IsAhead, SpoolOrFolder, TakesAt}

-- ---- the spool alone

-- the spool failed, or memory did
abbrev pub SpoolEnds : DiskState → DiskState → Halt GetFault → Type 0
SpoolEnds old new = HaltCause Never (Only Spool (Rises old.faults new.faults))

-- after the prefix of one of the names comes a sum
abbrev pub HasSumAfter : Text → List Found → Type 0
HasSumAfter prefix found = (k : ℕ) × (k < length found)
    × ((d : Found) → IsSome (sum_after prefix (string_bytes (get_or found k d).name)))

-- where the answer is no, the spool doesn't have the segment
abbrev pub LacksUnlessAhead : Text → Segment → DiskState → Bool → Type 0
LacksUnlessAhead stanza segment spool ahead =
    ahead ≡ false → IfSome spool.view.now (λ f. ¬ IsAhead stanza segment f)

-- of these names none is left that begins so
abbrev pub AreGoneWith : Name → List Found → DiskState → Type 0
AreGoneWith prefix found spool = All (λ x. starts_with nat_eq (string_bytes x.name) prefix ≡ true
    → IsAbsent spool.view.now (string_bytes x.name)) found

-- each name that begins so is as before or absent, and each other is as before
abbrev pub DropsWith : Name → DiskState → DiskState → Type 0
DropsWith prefix old new = Drops (λ n. starts_with nat_eq n prefix) old.view.now new.view.now

-- a crash then leaves no more than before, but that names that begin so may be absent
abbrev pub RemovesWith : Name → DiskState → DiskState → Type 0
RemovesWith prefix old new = Works (λ n v. IsTrue (starts_with nat_eq n prefix) × (v ≡ None)) (λ _. ⊥) old new

-- no name is left that begins so, and each other is as before
abbrev pub ClearsPrefix : Name → DiskState → DiskState → Type 0
ClearsPrefix prefix old new = new.view.now ≡ option_map (lacking prefix) old.view.now

-- .. as those of the fetched segment do
abbrev pub ClearsAhead : Text → Segment → DiskState → DiskState → Type 0
ClearsAhead stanza segment old new = ClearsPrefix (ahead_prefix stanza segment) old new

-- nothing changes but names of the fetched segment
abbrev pub ChangesSegment : Text → Segment → DiskState → DiskState → Type 0
ChangesSegment stanza segment old new =
    ChangesWithin (λ n. starts_with nat_eq n (ahead_prefix stanza segment)) old.view new.view

-- ---- the repository alone

-- it stores the segment here
abbrev pub FindsSegment : Text → ArchiveId → Segment → Stored → DiskState → Type 0
FindsSegment stanza id segment stored repo =
    IfSome repo.view.now (λ f. Finds stanza id (Whole segment) f (Some stored))

-- where the segment was found, this is where the archive pair's history has it
abbrev pub KeptAsFound : Text → Control → ArchiveName → DiskState → Option Stored → Type 0
KeptAsFound stanza known name repo found = IfSome found (λ file. IsKeptAs stanza known name file repo.view.now)

-- ---- other processes

-- this program was started with these arguments; or it couldn't be, which the line states
abbrev pub StartsSaying : {A : Type 0} → (A → ProcessesState) → List Text → A → A → String Global → Type 0
StartsSaying others arguments old new lines = Starts arguments (others old) (others new) (string_bytes lines)

-- ---- from the repository into the spool

module _ {D S : Type 0} (disk : D → DiskState) (spooled : S → DiskState) where
  -- the repository or the spool failed
  abbrev pub DisksFail : D → D → S → S → Object → Type 0
  DisksFail repo new_repo spool new_spool = rose_in (record none {
    repo = Rises (disk repo).faults (disk new_repo).faults;
    spool = Rises (spooled spool).faults (spooled new_spool).faults;
  })

  -- .. or memory did
  abbrev pub CopyStops : D → D → S → S → Halt GetFault → Type 0
  CopyStops repo new_repo spool new_spool = HaltCause Never (DisksFail repo new_repo spool new_spool)

  -- this was copied to a name of the spool
  abbrev pub CopiedAhead : Text → Name → D → S → S → Copied → Type 0
  CopiedAhead from name repo spool new_spool copied =
      CopiedTo copied (disk repo).view.now from name (spooled spool).view.now (spooled new_spool).view.now

  -- a stored file with this sum was put at a name of the spool, where the call succeeds
  abbrev pub PutsCopy : {R : Type 0} → Text → Text → Name → Result R (Halt GetFault) → D → S → S → Type 0
  PutsCopy from sum name result repo spool new_spool = OnOk result
      (PutsAhead (disk repo).view.now from sum name (spooled spool).view.now (spooled new_spool).view.now)

  abbrev pub PutStops : {R : Type 0} → Text → Text → Result R (Halt GetFault) → D → D → S → S → Type 0
  PutStops from sum result repo new_repo spool new_spool = IfErr result (HaltCause
      (PassCause (disk repo).view.now from sum) (DisksFail repo new_repo spool new_spool))

  -- the segment was put at its name
  abbrev pub Fetched : Text → ArchiveId → Segment → D → S → S → Type 0
  Fetched stanza id segment repo spool new_spool = FetchesOne stanza id segment (disk repo).view.now
      (spooled spool).view.now (spooled new_spool).view.now

  abbrev pub OneEnds : {R : Type 0} → Text → ArchiveId → Segment → Result R (Halt GetFault) → D → D → S → S → Type 0
  OneEnds stanza id segment result repo new_repo spool new_spool = IfErr result (HaltCause
      (FileCause stanza id (Whole segment) (disk repo).view.now) (DisksFail repo new_repo spool new_spool))

  -- the segment that follows was fetched, or there is none, where the call succeeds
  abbrev pub NextComes : Text → ArchiveId → Segment → ℕ → Result (Option Segment) (Halt GetFault) → D → S → S → Type 0
  NextComes stanza id last size result repo spool new_spool = IfOk result (FetchesNext stanza id last size
      (disk repo).view.now (spooled spool).view.now (spooled new_spool).view.now)

  abbrev pub NextStops : Text → ArchiveId → Segment → ℕ → D → D → S → S → Halt GetFault → Type 0
  NextStops stanza id last size repo new_repo spool new_spool = HaltCause
      (NextCause stanza id last size (disk repo).view.now) (DisksFail repo new_repo spool new_spool)

  -- at most as many of the following segments were fetched as a queue of this many bytes holds
  abbrev pub FetchedAhead : Text → ArchiveId → Segment → ℕ → ℕ → D → S → S → ℕ → Type 0
  FetchedAhead stanza id after size queue repo spool new_spool = IsFetched stanza id after size
      (most_ahead size queue) (disk repo).view.now (spooled spool).view.now (spooled new_spool).view.now

  abbrev pub AheadStops : Text → ArchiveId → Segment → ℕ → ℕ → D → D → S → S → Halt GetFault → Type 0
  AheadStops stanza id after size queue repo new_repo spool new_spool = HaltCause
      (AheadCause stanza id after size (most_ahead size queue) (disk repo).view.now)
      (DisksFail repo new_repo spool new_spool)

  -- the segments after a stored one were fetched, by its length
  abbrev pub FetchedAfter : Text → Segment → Stored → ℕ → D → S → S → Type 0
  FetchedAfter stanza segment file queue repo spool new_spool = FetchesAfter stanza segment file queue
      (disk repo).view.now (spooled spool).view.now (spooled new_spool).view.now

  -- .. where the segment is stored
  abbrev pub FetchedUp : Text → Control → Text → Segment → ℕ → D → S → S → Outcome → Type 0
  FetchedUp stanza known word segment queue repo spool new_spool = FetchedBy stanza known word segment queue
      (disk repo).view.now (spooled spool).view.now (spooled new_spool).view.now

  abbrev pub FollowUpStops : Text → Control → Segment → ℕ → D → D → S → S → Halt GetFault → Type 0
  FollowUpStops stanza known segment queue repo new_repo spool new_spool = HaltCause
      (FollowUpCause stanza known segment queue (disk repo).view.now) (DisksFail repo new_repo spool new_spool)

-- ---- from the spool into the data folder

module _ {S T : Type 0} (spooled : S → DiskState) (folder : T → DataFolderState) where
  -- the spool or the data folder failed, or memory did
  abbrev pub TakeEnds : S → S → T → T → Halt GetFault → Type 0
  TakeEnds spool new_spool tree new_tree =
      HaltCause Never (SpoolOrFolder (spooled spool) (spooled new_spool) (folder tree) (folder new_tree))

  -- the bytes at a name, which have the sum, were put at the path, as the result says
  abbrev pub TakesFrom : Result Bool (Halt GetFault) → Name → Text → Text → S → T → T → Type 0
  TakesFrom result name sum path spool tree new_tree =
      TakesAt result (spooled spool).view.now name sum path (folder tree).nodes (folder new_tree).nodes

  -- .. those of a fetched segment
  abbrev pub Draws : Text → Segment → Text → Text → Result Bool (Halt GetFault) → S → T → T → Type 0
  Draws stanza segment sum path result spool tree new_tree =
      TakesFrom result (ahead_name stanza segment sum) sum path spool tree new_tree

  -- at the path is what was there, or the fetched segment with this sum
  abbrev pub SetsAhead : Text → Segment → Text → Text → S → T → T → Type 0
  SetsAhead stanza segment sum path spool tree new_tree = ChangesPath path
      (AreStoredAt (spooled spool).view.now (ahead_name stanza segment sum) sum)
      (folder tree).nodes (folder new_tree).nodes

-- ---- from the repository into the data folder

module _ {D T : Type 0} (disk : D → DiskState) (folder : T → DataFolderState) where
  -- a file of the sum that the repository's name states was served, or nothing was found
  abbrev pub GotBySum : Text → GetOrder → D → T → T → Outcome → Type 0
  GotBySum stanza order repo tree new_tree = GotAhead stanza order.folder.now order.word.now order.path.now
      (disk repo).view.now (folder tree).nodes (folder new_tree).nodes

  -- .. where the file is stored
  abbrev pub ServedBySum : Text → GetOrder → D → T → T → Option Stored → Type 0
  ServedBySum stanza order repo tree new_tree = ServedAs stanza order.folder.now order.word.now order.path.now
      (disk repo).view.now (folder tree).nodes (folder new_tree).nodes

  -- so it is in all that a crash leaves, where no name that is looked at was unsynced
  abbrev pub GotLasts : Text → GetOrder → D → D → T → T → Outcome → Type 0
  GotLasts stanza order repo new_repo tree new_tree outcome = IsSynced stanza (disk repo).view
      → IsSome (disk repo).view.now → PairAlike stanza (disk repo).view → (f : Content)
      → Leaves (disk new_repo).view (disk new_repo).view.moment f
      → GotAhead stanza order.folder.now order.word.now order.path.now
      (Some f) (folder tree).nodes (folder new_tree).nodes outcome

  abbrev pub ServedLasts : Text → GetOrder → D → D → T → T → Option Stored → Type 0
  ServedLasts stanza order repo new_repo tree new_tree found = IsSynced stanza (disk repo).view
      → IsSome (disk repo).view.now → PairAlike stanza (disk repo).view → (f : Content)
      → Leaves (disk new_repo).view (disk new_repo).view.moment f
      → ServedAs stanza order.folder.now order.word.now order.path.now
      (Some f) (folder tree).nodes (folder new_tree).nodes found

  -- the data folder has what the stanza that the repository represents has archived
  abbrev pub GivenFile : Text → GetOrder → D → T → T → Option Stored → Type 0
  GivenFile stanza order repo tree new_tree found = (s : Stanza) → IsSome (disk repo).view.now
      → NowRepresents stanza (Some s) (disk repo).view.now
      → GivenAs s order.folder.now order.word.now order.path.now
      (folder tree).nodes (folder new_tree).nodes found

  -- at the path is what was there, or a file of the sum that the repository's name states
  abbrev pub SetsBySum : Text → GetOrder → D → T → T → Type 0
  SetsBySum stanza order repo tree new_tree = ChangesPath (served_path order.folder.now order.path.now)
      (IsServedBySum stanza order.folder.now order.word.now order.path.now (disk repo).view.now (folder tree).nodes)
      (folder tree).nodes (folder new_tree).nodes

-- ---- the command

module _ {D S T : Type 0} (disk : D → DiskState) (spooled : S → DiskState) (folder : T → DataFolderState) where
  -- what is served is what the stanza has archived, where no two contents share a SHA-1
  abbrev pub GivesFile : Text → GetOrder → Result Outcome (Halt GetFault) → D → S → T → T → Type 0
  GivesFile stanza order result repo spool tree new_tree = IfOk result (λ outcome. (s : Stanza)
      → IsSome (disk repo).view.now → IsSome (spooled spool).view.now
      → NowRepresents stanza (Some s) (disk repo).view.now
      → NoTwins (disk repo).view.now (spooled spool).view.now
      → GivenBy s order.folder.now order.word.now order.path.now
      (folder tree).nodes (folder new_tree).nodes outcome)

  abbrev pub GivesOne : Text → GetOrder → Result (Option Stored) (Halt GetFault) → D → S → T → T → Type 0
  GivesOne stanza order result repo spool tree new_tree = IfOk result (λ found. (s : Stanza)
      → IsSome (disk repo).view.now → IsSome (spooled spool).view.now
      → NowRepresents stanza (Some s) (disk repo).view.now
      → NoTwins (disk repo).view.now (spooled spool).view.now
      → GivenAs s order.folder.now order.word.now order.path.now
      (folder tree).nodes (folder new_tree).nodes found)

  -- why nothing is served
  abbrev pub GetAheadEnds : Text → Control → GetOrder → D → D → S → S → T → T → Halt GetFault → Type 0
  GetAheadEnds stanza known order repo new_repo spool new_spool tree new_tree = HaltCause
      (GetAheadCause stanza order.folder.now order.word.now order.path.now known order.name
      (disk repo).view.now (folder tree).nodes (spooled spool).view.now)
      (rose_in (record none {
        repo = Rises (disk repo).faults (disk new_repo).faults;
        spool = Rises (spooled spool).faults (spooled new_spool).faults;
        tree = Rises (folder tree).faults (folder new_tree).faults;
      }))
