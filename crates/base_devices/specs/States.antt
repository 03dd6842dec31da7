-- What each device reports, as one value, and what a call leaves of it.
use Rattle.std.specs.Prelude.{◌≡◌, ◌≢◌, ◌⊎◌, ◌≤◌, ◌++◌, ◌↔◌, [], ◌∷◌, ℕ, Bool, false, List, Option, Result, String, MatchResult, option_map, option_and_then, map, length, string_bytes, IfSome, Contains}
use Rattle.std.specs.declared.alloc.Global.{Global}
use Rattle.base_devices.specs.declared.disk.Found.{Found}
use Rattle.base_devices.specs.declared.data_folder.FolderEntry.{FolderEntry}
use Rattle.base_devices.specs.declared.data_folder.ReadableFile.{ReadableFile}
use Rattle.base_devices.specs.declared.locks.LockAnswer.{LockAnswer}
use Rattle.base_devices.specs.declared.locks.LockAnswer.TheVariants.{Busy}
use Rattle.base_devices.specs.Cause.{Rises}
use Rattle.base_devices.specs.Content.{Name, Value, Content, HasBytes, Holds, Changes, IsListing, AreFolders, Reads}
use Rattle.base_devices.specs.Moments.{View, GrowsBy, LeavesNoMore, SyncsFolders, is_unsynced}
use Rattle.base_devices.specs.DataFolder.{Nodes, IsTreeListing, IsFolderListing, IsPlaced, IsFileAt, file_bytes, known_path}
use Rattle.base_devices.specs.Locking.{with_lock}

-- ---- places

-- the one that was opened last, and nothing before the first
abbrev pub last_opened : List Name → Name
last_opened [] = []
last_opened (place ∷ places) = place

-- the place was opened
abbrev pub IsOpened : Name → List Name → List Name → Type 0
IsOpened place old new = new ≡ place ∷ old

-- no other place was opened
abbrev pub OpensOnly : Name → List Name → List Name → Type 0
OpensOnly place old new = (new ≡ old) ⊎ IsOpened place old new

-- At `Ok` the place was opened. At an `Err` it was, or none was.
abbrev pub Opens : {T E : Type 0} → Result T E → Name → List Name → List Name → Type 0
Opens result place old new = MatchResult result (λ _. IsOpened place old new) (λ _. OpensOnly place old new)

-- ---- a disk

-- what is known of a disk
pub record DiskState : Type 1 where
  -- what it holds and what a crash may leave, where that is known
  pub view : View
  -- the places that were opened, the last one first
  pub opened : List Name
  -- how many of its calls were faulty, where its contents are known
  pub faulty_calls : ℕ
  -- how often it failed
  pub faults : ℕ

-- a call that makes no faulty call and opens no place
pub record CallsProperly (old new : DiskState) : Type 0 where
  pub opened : new.opened ≡ old.opened
  pub proper : new.faulty_calls ≡ old.faulty_calls
  pub later : old.faults ≤ new.faults

-- a call that only reads
pub record OnlyReads (old new : DiskState) : Type 0 where
  pub now : new.view.now ≡ old.view.now
  pub time : LeavesNoMore old.view new.view
  pub opened : new.opened ≡ old.opened
  pub proper : new.faulty_calls ≡ old.faulty_calls
  pub later : old.faults ≤ new.faults

-- a call that adds no more than this to what a crash may leave
pub record Works (added : Name → Value → Type 0) (newly_unsynced : Name → Type 0) (old new : DiskState) : Type 0 where
  pub time : GrowsBy added newly_unsynced old.view new.view
  pub opened : new.opened ≡ old.opened
  pub proper : new.faulty_calls ≡ old.faulty_calls
  pub later : old.faults ≤ new.faults

-- no faulty call was made
abbrev pub ProperOnDisk : DiskState → DiskState → Type 0
ProperOnDisk old new = new.faulty_calls ≡ old.faulty_calls

-- At `Ok` it holds its content after the change. At an `Err` it holds that or what it held.
abbrev pub ChangesDisk : {T E : Type 0} → Result T E → (Content → Content) → DiskState → DiskState → Type 0
ChangesDisk result change old new = Changes result change old.view.now new.view.now

-- a crash leaves at each of these names that wasn't unsynced what the disk held
abbrev pub MakesDurable : (Name → Type 0) → DiskState → DiskState → Type 0
MakesDurable these old new = SyncsFolders these old.view new.view

-- none of these names that had bytes is unsynced
abbrev pub SyncsBytes : (Name → Type 0) → DiskState → DiskState → Type 0
SyncsBytes these old new = (n : Name) → these n → HasBytes old.view.now n → is_unsynced new.view n ≡ false

-- these are the names below the folder, where what the disk holds is known
abbrev pub ListsBelow : Name → DiskState → List Found → Type 0
ListsBelow folder disk found = IfSome disk.view.now
    (λ f. IsListing folder f (map (λ x. (string_bytes x.name, x.size)) found))

-- these are the folders in the folder, where what the disk holds is known
abbrev pub ListsFolders : Name → DiskState → List (String Global) → Type 0
ListsFolders folder disk known = IfSome disk.view.now (λ f. AreFolders folder f (map string_bytes known))

-- a call that adds no more than what the disk holds at these names, which may become unsynced
abbrev pub WorksBySync : (Name → Type 0) → DiskState → DiskState → Type 0
WorksBySync these old new = Works (λ n v. these n × Holds old.view.now n v) these old new

-- it failed in between
abbrev pub DiskFailed : DiskState → DiskState → Type 0
DiskFailed old new = Rises old.faults new.faults

-- ---- a data folder

-- what is known of a data folder
pub record DataFolderState : Type 0 where
  -- what it holds, where that is known
  pub nodes : Option Nodes
  -- the paths at which a crash may leave something else than what is there
  pub unsynced : Name → Bool
  -- the places that were opened, the last one first
  pub opened : List Name
  -- how many of its calls were faulty, where its contents are known
  pub faulty_calls : ℕ
  -- how often it failed
  pub faults : ℕ

-- a call that only reads
pub record OnlyReadsFolder (old new : DataFolderState) : Type 0 where
  pub nodes : new.nodes ≡ old.nodes
  pub opened : new.opened ≡ old.opened
  pub proper : new.faulty_calls ≡ old.faulty_calls
  pub later : old.faults ≤ new.faults

-- a crash leaves what is there
abbrev pub IsSyncedAt : DataFolderState → Name → Type 0
IsSyncedAt tree path = tree.unsynced path ≡ false

abbrev pub AllSynced : DataFolderState → Type 0
AllSynced tree = (path : Name) → IsSyncedAt tree path

-- what was synced still is
abbrev pub StaySynced : DataFolderState → DataFolderState → Type 0
StaySynced old new = (path : Name) → IsSyncedAt old path → IsSyncedAt new path

-- so it is at all paths but one
abbrev pub StaySyncedBut : Name → DataFolderState → DataFolderState → Type 0
StaySyncedBut path old new = (other : Name) → other ≢ path → IsSyncedAt old other → IsSyncedAt new other

-- at all but two
abbrev pub StaySyncedButTwo : Name → Name → DataFolderState → DataFolderState → Type 0
StaySyncedButTwo first second old new =
    (other : Name) → other ≢ first → other ≢ second → IsSyncedAt old other → IsSyncedAt new other

-- no faulty call was made
abbrev pub ProperInFolder : DataFolderState → DataFolderState → Type 0
ProperInFolder old new = new.faulty_calls ≡ old.faulty_calls

-- none was made where a file was at the one path and the other had its folder
abbrev pub MovesProperly : Name → Name → DataFolderState → DataFolderState → Type 0
MovesProperly from to old new = IsFileAt old.nodes from → IsPlaced old.nodes to → ProperInFolder old new

-- these are its nodes, where they are known
abbrev pub ListsTree : DataFolderState → List FolderEntry → Type 0
ListsTree tree seen = IfSome tree.nodes (λ f. IsTreeListing f (map (λ s. (string_bytes s.path, s.node)) seen))

-- the listing is that of the folder in the tree, where that is known
abbrev pub ListsWithin : Name → DataFolderState → List FolderEntry → Type 0
ListsWithin within tree seen =
    IfSome tree.nodes (λ f. IsFolderListing f within (map (λ s. (string_bytes s.path, s.node)) seen))

-- what a read of a known file into a buffer gives, where that is known
abbrev pub ReadsFile : DataFolderState → ReadableFile → ℕ → List ℕ → List ℕ → Option ℕ → Type 0
ReadsFile tree what at old_buf new_buf answer = IfSome tree.nodes
    (λ f. Reads (file_bytes (f (known_path what))) at (length old_buf) new_buf answer)

-- a known file has this many bytes, or is absent, where that is known
abbrev pub HasFileSize : DataFolderState → ReadableFile → Option ℕ → Type 0
HasFileSize tree what size = IfSome tree.nodes (λ f. size ≡ option_map length (file_bytes (f (known_path what))))

-- it failed in between
abbrev pub FolderFailed : DataFolderState → DataFolderState → Type 0
FolderFailed old new = Rises old.faults new.faults

-- ---- a connection to a server

-- what is known of a connection to the server
pub record ConnectionState : Type 0 where
  -- what it will give and what it was sent, where that is known
  pub pending : Option (List ℕ)
  pub sent : Option (List ℕ)
  -- the path that was opened last
  pub place : Name
  -- how often it failed
  pub faults : ℕ

-- it failed in between
abbrev pub ServerFailed : ConnectionState → ConnectionState → Type 0
ServerFailed old new = Rises old.faults new.faults

-- ---- a clock

-- the last second of year 9999
abbrev pub last_second : ℕ
last_second = 253402300799

pub record ClockState : Type 0 where
  -- no second that it shows from now on is less
  pub least : ℕ
  -- how often it failed
  pub faults : ℕ

-- the second was shown, and no later one is less
pub record ShowsSecond (second : ℕ) (old new : ClockState) : Type 0 where
  pub later : old.least ≤ second
  pub in_range : second ≤ last_second
  pub least : second ≤ new.least

-- it failed in between
abbrev pub ClockFailed : ClockState → ClockState → Type 0
ClockFailed old new = Rises old.faults new.faults

-- ---- locks

-- what is known of the locks
pub record LocksState : Type 0 where
  -- the names that were taken and not released
  pub taken : List Name
  -- each lock that was ever taken, by its folder and name, the last one first, where that is known
  pub ever_taken : Option (List (Name × Name))
  -- the names that others hold, where that is known
  pub others : Option (List Name)
  -- how often a lock was held by another
  pub refusals : ℕ
  -- how often they failed
  pub faults : ℕ

-- the lock is added to those that were ever taken, where it was taken
abbrev pub RecordsTake : LockAnswer → Name × Name → LocksState → LocksState → Type 0
RecordsTake take lock old new = new.ever_taken ≡ option_map (with_lock take lock) old.ever_taken

-- the answer is that it is held exactly where others hold the name, if that is known
abbrev pub TellsHeld : LockAnswer → Name → LocksState → Type 0
TellsHeld take name locks = IfSome locks.others (λ names. (take ≡ Busy) ↔ Contains names name)

-- no lock was taken
abbrev pub TakesNone : LocksState → LocksState → Type 0
TakesNone old new = (new.taken ≡ old.taken) × (new.ever_taken ≡ old.ever_taken)

-- ---- a source of the configuration

-- what is known of the configuration's files
pub record InputState : Type 0 where
  -- what each file holds, and what is left of the opened one, where that is known
  pub files : Option Content
  pub left : Option (List ℕ)
  -- the path that was opened last
  pub place : Name
  -- how often it failed
  pub faults : ℕ

-- all of the file is left
abbrev pub BeginsFile : Name → InputState → InputState → Type 0
BeginsFile path old new = new.left ≡ option_and_then (λ (f : Content). f path) old.files

-- ---- an output

-- what is known of an output
pub record OutputState : Type 0 where
  -- what was written so far, where that is known
  pub written : Option (List ℕ)
  -- how often it failed
  pub faults : ℕ

-- these bytes were added to what was written
abbrev pub WritesMore : List ℕ → OutputState → OutputState → Type 0
WritesMore bytes old new = new.written ≡ option_map (λ text. text ++ bytes) old.written

-- a write failed in between
abbrev pub WriteFailed : OutputState → OutputState → Type 0
WriteFailed old new = Rises old.faults new.faults
