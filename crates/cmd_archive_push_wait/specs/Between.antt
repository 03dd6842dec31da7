-- What archive-push in the background and its parts do between two states of the repository, of the spool, of the data
-- folder and of other processes. `others`, `disk`, `spooled` and `folder` say what is known of each.
use Rattle.std.specs.Prelude.{◌≡◌, ◌⊎◌, ◌≤◌, [], ℕ, Bool, false, List, Result, IfSome, IsSome, IsSomeAnd}
use Rattle.sha1.specs.Sha1.{sha1}
use Rattle.base_text.specs.declared.sum.Sum.{Sum}
use Rattle.base_devices.specs.Cause.{Rises}
use Rattle.base_devices.specs.Content.{LiesDirectlyIn}
use Rattle.base_devices.specs.Moments.{SyncsFolders, is_unsynced}
use Rattle.base_devices.specs.States.{DiskState, DataFolderState}
use Rattle.base_model.specs.declared.wal.ArchiveName.{ArchiveName}
use Rattle.base_model.specs.Log.{HasReceipt}
use Rattle.base_model.specs.Names.{receipt_name, wal_text}
use Rattle.base_model.specs.Text.{Text}
use Rattle.base_crash_lists.specs.Beside.{StaysBeside}
use Rattle.archive_lookup.specs.Causes.{limit_of}
use Rattle.archive_lookup.specs.Turns.{ProcessesState}
use Rattle.archive_spool.specs.declared.spool_query.Asked.{Asked}
use Rattle.archive_spool.specs.declared.spool_query.Asked.TheVariants.{NotYet as Nothing}
use Rattle.archive_wait.specs.TurnsDone.{Counts, TurnsDone}
use Rattle.cmd_types.specs.declared.stages.halt.Halt.{Halt}
use Rattle.cmd_types.specs.declared.stages.object.Object.TheVariants.{Spool, TheDataFolder}
use Rattle.cmd_types.specs.declared.stages.outcome.Outcome.{Outcome}
use Rattle.cmd_types.specs.declared.stages.plan.SyncScope.TheVariants.{Looked}
use Rattle.cmd_types.specs.DisksEffect.{On, one, Takes}
use Rattle.cmd_types.specs.Halts.{HaltCause, Never, Only}
use Rattle.cmd_types.specs.Reached.{OnFinished, reached_by}
use Rattle.cmd_types.specs.Risen.{none, rose_in}
use Rattle.cmd_archive_push.specs.declared.order.PushOrder.{PushOrder}
use Rattle.cmd_archive_push.specs.LogFile.{known_file}
use Rattle.cmd_archive_push.specs.WalPath.{wal_path}
use Rattle.cmd_archive_push_wait.specs.declared.fault.QueueFault.{QueueFault}
use Rattle.cmd_archive_push_wait.specs.Causes.{Call, IsStarted, LongCause, QueueCause}
use Rattle.cmd_archive_push_wait.specs.Leaving.{HadTurn, IsAcknowledged, IsBare, marks_folder}
use Rattle.cmd_archive_push_wait.specs.Pushing.{IsWaitOf, MissCause, QueuePushCause, queue_early}

-- ---- the file's sum

-- this is the sum of the file of the log, where the data folder has it
abbrev pub IsSumOfLog : ArchiveName → DataFolderState → Sum → Type 0
IsSumOfLog name tree sum = IfSome (known_file tree.nodes (wal_path (wal_text name))) (λ bytes. sum.0 ≡ sha1 bytes)

-- why there is none
abbrev pub SumEnds : PushOrder → DataFolderState → DataFolderState → Halt QueueFault → Type 0
SumEnds order old new = HaltCause
    (MissCause order.path.now (wal_text order.name) (limit_of order.name) old.nodes)
    (Only TheDataFolder (Rises old.faults new.faults))

-- ---- a look at the spool

-- the spool failed, or memory did
abbrev pub SpoolEnds : DiskState → DiskState → Halt QueueFault → Type 0
SpoolEnds old new = HaltCause Never (Only Spool (Rises old.faults new.faults))

-- the names of marks are synced
abbrev pub SyncsMarks : Text → DiskState → DiskState → Type 0
SyncsMarks stanza old new = SyncsFolders (LiesDirectlyIn (marks_folder stanza)) old.view new.view

-- where the spool says nothing of the file no crash brings a receipt of it back
abbrev pub IsBareIfNothing : Text → ArchiveName → DiskState → DiskState → Asked → Type 0
IsBareIfNothing stanza name old new asked = asked ≡ Nothing → IsSome old.view.now
    → is_unsynced old.view (receipt_name stanza name) ≡ false → IsBare stanza name new.view

-- why it isn't known what it says
abbrev pub MarkEnds : Text → ArchiveName → DiskState → DiskState → Halt QueueFault → Type 0
MarkEnds stanza name old new =
    HaltCause (LongCause stanza name old.view.now) (Only Spool (Rises old.faults new.faults))

-- ---- a start, and a step of others

-- this program was started once with these arguments, or not at all
abbrev pub MayStart : List Text → ProcessesState → ProcessesState → Type 0
MayStart arguments old new = (new.started ≡ old.started) ⊎ IsStarted arguments old new

-- this many steps of others succeeded at most
abbrev pub TakesFew : ℕ → ProcessesState → ProcessesState → Type 0
TakesFew most old new = (n : ℕ) × (n ≤ most) × Counts n old.turns new.turns

-- the repository or the spool failed, or memory did
abbrev pub TurnStops : {D S : Type 0} → (D → DiskState) → (S → DiskState) → D → D → S → S → Halt QueueFault → Type 0
TurnStops disk spooled repo new_repo spool new_spool = HaltCause Never (rose_in (record none {
  repo = Rises (disk repo).faults (disk new_repo).faults;
  spool = Rises (spooled spool).faults (spooled new_spool).faults;
}))

-- where the spool has the receipt no step of others is taken, and the repository rests
abbrev pub Skips : {A D : Type 0} → Text → ArchiveName → Text → DiskState → A → A → D → D → Type 0
Skips stanza name sum spool old new repo new_repo =
    IsSomeAnd spool.view.now (λ f. HasReceipt stanza f name sum) → (new ≡ old) × (new_repo ≡ repo)

module _ {A D S : Type 0} (others : A → ProcessesState) (disk : D → DiskState) (spooled : S → DiskState) where
  -- what the steps of others that are known state is all that was done
  abbrev pub TookTurn : Bool → A → A → D → D → S → S → Type 0
  TookTurn ended old new repo new_repo spool new_spool = HadTurn ended (others old).account (others new).account
      (disk repo).view (disk new_repo).view (spooled spool).view (spooled new_spool).view

  -- where the steps of others are known and are of this stanza, these are all that was done
  abbrev pub WentByStanza : Text → Bool → A → A → D → D → S → S → Type 0
  WentByStanza stanza whole old new repo new_repo spool new_spool = IfSome (others new).account
      (λ a. a.stanza ≡ stanza → TurnsDone whole (others old).account a (disk repo).view (disk new_repo).view
      (spooled spool).view (spooled new_spool).view)

  -- .. a drain has stored a file of this name and sum
  abbrev pub AcknowledgesFile : Text → ArchiveName → Text → A → A → D → D → S → Type 0
  AcknowledgesFile stanza name sum old new repo new_repo spool = IfSome (others new).account
      (λ a. a.stanza ≡ stanza → IsAcknowledged name sum (others old).account a (disk repo).view
      (disk new_repo).view (spooled spool).view)

  -- .. nothing changes but below the stanza's archive
  abbrev pub StayBeside : Text → A → D → D → S → S → Type 0
  StayBeside stanza new repo new_repo spool new_spool = IfSome (others new).account
      (λ a. a.stanza ≡ stanza → StaysBeside stanza (disk repo).view (disk new_repo).view
      × StaysBeside stanza (spooled spool).view (spooled new_spool).view)

  -- .. in the log it is the steps of others that it waited for
  abbrev pub WaitsByTurns : Text → Result Outcome (Halt QueueFault) → A → A → D → D → S → S → Type 0
  WaitsByTurns stanza result old new repo new_repo spool new_spool = IfSome (others new).account
      (λ a. a.stanza ≡ stanza → On (one (IsWaitOf (others old).account a)) (λ command. Takes Looked stanza command
      (reached_by queue_early result) (disk repo).view (spooled spool).view (disk new_repo).view
      (spooled new_spool).view))

  -- ---- the whole

  -- the call that queues a file
  abbrev pub call_of : Text → ArchiveName → Text → List Text → ℕ → A → A → D → D → S → S → Call
  call_of stanza name sum arguments turns old new repo new_repo spool new_spool = record {
    stanza = stanza;
    name = name;
    sum = sum;
    arguments = arguments;
    most = turns;
    others = others old;
    new_others = others new;
    repo = (disk repo).view;
    new_repo = (disk new_repo).view;
    spool = (spooled spool).view;
    new_spool = (spooled new_spool).view;
  }

  -- why the file isn't acknowledged
  abbrev pub QueueEnds : Text → ArchiveName → Text → List Text → ℕ → A → A → D → D → S → S → Halt QueueFault → Type 0
  QueueEnds stanza name sum arguments turns old new repo new_repo spool new_spool = HaltCause
      (QueueCause (call_of stanza name sum arguments turns old new repo new_repo spool new_spool))
      (rose_in (record none {
        repo = Rises (disk repo).faults (disk new_repo).faults;
        spool = Rises (spooled spool).faults (spooled new_spool).faults;
        others = Rises (others old).faults (others new).faults;
      }))

module _ {A D S T : Type 0} (others : A → ProcessesState) (disk : D → DiskState) (spooled : S → DiskState)
    (folder : T → DataFolderState) where
  -- the order's file is acknowledged only where a drain has stored the bytes that the data folder has
  abbrev pub AcknowledgesLog : Text → PushOrder → A → A → D → D → S → T → Outcome → Type 0
  AcknowledgesLog stanza order old new repo new_repo spool tree outcome = OnFinished outcome (λ lines. (lines ≡ [])
      × IfSome (known_file (folder tree).nodes (wal_path (wal_text order.name)))
      (λ bytes. AcknowledgesFile others disk spooled stanza order.name (sha1 bytes) old new repo new_repo spool))

  -- why it isn't
  abbrev pub QueuePushEnds : Text → PushOrder → List Text → ℕ → A → A → D → D → S → S → T → T → Halt QueueFault
      → Type 0
  QueuePushEnds stanza order arguments turns old new repo new_repo spool new_spool tree new_tree = HaltCause
      (QueuePushCause order.path.now (folder tree).nodes order.name (λ sum. call_of others disk spooled
      stanza order.name sum arguments turns old new repo new_repo spool new_spool))
      (rose_in (record none {
        repo = Rises (disk repo).faults (disk new_repo).faults;
        spool = Rises (spooled spool).faults (spooled new_spool).faults;
        tree = Rises (folder tree).faults (folder new_tree).faults;
        others = Rises (others old).faults (others new).faults;
      }))
