-- What a data folder holds: a node for each path below its root, and what calls do to it.
use Rattle.std.specs.Prelude.{◌≡◌, ◌⊎◌, ℕ, Bool, true, false, [], List, ◌∷◌, ◌++◌, length, map, codes, Option, Some, None, Result, Ok, Err, option_map, MatchResult, Contains, IfSome, IsSome, string_bytes}
use Rattle.base_devices.specs.Content.{Name, Value, set_at, SameBut, LiesDirectlyIn}
use Rattle.base_devices.specs.Order.{are_in_order}
use Rattle.base_devices.specs.declared.data_folder.Node.{Node}
use Rattle.base_devices.specs.declared.data_folder.Node.TheVariants.{File, Folder, Link, Other}
use Rattle.base_devices.specs.declared.data_folder.ReadableFile.{ReadableFile}
use Rattle.base_devices.specs.declared.data_folder.ReadableFile.TheVariants.{Control, Version, Wal}

-- a file with its bytes and its time in seconds, a folder, a link, or a node of another kind
pub data Held : Type 0 where
  file : (bytes : List ℕ) (time : ℕ) → Held
  folder : Held
  link : Held
  other : Held

abbrev pub Nodes : Type 0
Nodes = Name → Option Held

-- what a listing shows of a node
abbrev pub shown : Held → Node
shown (file bytes time) = File (length bytes) time
shown folder = Folder
shown link = Link
shown other = Other

-- a listing: every node once, in byte order of the paths, each folder on a path among them
pub record IsTreeListing (nodes : Nodes) (seen : List (Name × Node)) : Type 0 where
  pub each : (path : Name) (node : Node) → Contains seen (path, node)
      → (held : Held) × (nodes path ≡ Some held) × (node ≡ shown held)
  pub all : (path : Name) (held : Held) → nodes path ≡ Some held → Contains seen (path, shown held)
  pub folders : (prefix rest : Name) (node : Node) → Contains seen (prefix ++ 47 ∷ rest, node)
      → Contains seen (prefix, Folder)
  pub order : are_in_order (map (λ s. s.0) seen) ≡ true

-- the nodes right within a folder, each once, in byte order of the paths
pub record IsFolderListing (nodes : Nodes) (within : Name) (seen : List (Name × Node)) : Type 0 where
  pub each : (path : Name) (node : Node) → Contains seen (path, node) → LiesDirectlyIn within path
      × ((held : Held) × (nodes path ≡ Some held) × (node ≡ shown held))
  pub all : (path : Name) (held : Held) → LiesDirectlyIn within path → nodes path ≡ Some held
      → Contains seen (path, shown held)
  pub order : are_in_order (map (λ s. s.0) seen) ≡ true

-- the path of a known file (PostgreSQL manual, "Database File Layout")
abbrev pub known_path : ReadableFile → Name
known_path Control = codes "global/pg_control"
known_path Version = codes "PG_VERSION"
known_path (Wal name) = codes "pg_wal/" ++ string_bytes name

-- the bytes of a node that is a file
abbrev pub file_bytes : Option Held → Value
file_bytes (Some (file bytes time)) = Some bytes
file_bytes other_node = None

-- the folder that holds the path is there: the root always is
abbrev pub HasItsFolder : Nodes → Name → Type 0
HasItsFolder nodes path = (prefix last : Name) → path ≡ prefix ++ 47 ∷ last → ¬ Contains last 47
    → nodes prefix ≡ Some folder

-- the tree, where it is known, has its folder
abbrev pub IsPlaced : Option Nodes → Name → Type 0
IsPlaced nodes path = IfSome nodes (λ f. HasItsFolder f path)

-- a file is there, where that is known
abbrev pub IsFileAt : Option Nodes → Name → Type 0
IsFileAt nodes path = IfSome nodes (λ f. IsSome (file_bytes (f path)))

-- nothing lies below the path
abbrev pub IsBare : Option Nodes → Name → Type 0
IsBare nodes path = IfSome nodes (λ f. (rest : Name) → f (path ++ 47 ∷ rest) ≡ None)

-- another node at a path
abbrev pub with_node : Name → Option Held → Nodes → Nodes
with_node = set_at

-- a folder at a path
abbrev pub with_folder : Name → Nodes → Nodes
with_folder path = with_node path (Some folder)

-- a file of no bytes at a path, with this time
abbrev pub with_empty_file : Name → ℕ → Nodes → Nodes
with_empty_file path time = with_node path (Some (file [] time))

-- a file with more bytes at its end, and this time
abbrev pub longer : List ℕ → ℕ → Option Held → Option Held
longer more time (Some (file bytes old)) = Some (file (bytes ++ more) time)
longer more time node = node

abbrev pub lengthened_file : Name → List ℕ → ℕ → Nodes → Nodes
lengthened_file path more time f = with_node path (longer more time (f path)) f

-- a file with this time; another node stays
abbrev pub with_time : ℕ → Option Held → Option Held
with_time time (Some (file bytes old)) = Some (file bytes time)
with_time time node = node

abbrev pub timed_file : Name → ℕ → Nodes → Nodes
timed_file path time f = with_node path (with_time time (f path)) f

-- the node of one path at another, with its time
abbrev pub moved_node : Name → Name → Nodes → Nodes
moved_node from to f = with_node to (f from) (with_node from None f)

-- At `Ok` the tree is after the change. At an `Err` it is as before.
abbrev pub ChangesTree : {T E : Type 0} → Result T E → (Nodes → Nodes) → Option Nodes → Option Nodes → Type 0
ChangesTree result change old new = MatchResult result (λ _. new ≡ option_map change old) (λ _. new ≡ old)

-- At `Ok` the node is gone. At an `Err` it may be, or the tree is as before.
abbrev pub RemovesSynced : {T E : Type 0} → Result T E → Name → Option Nodes → Option Nodes → Type 0
RemovesSynced result path old new = MatchResult result (λ _. new ≡ option_map (with_node path None) old)
    (λ _. (new ≡ old) ⊎ (new ≡ option_map (with_node path None) old))

-- At `Ok` the tree is after the change, with some time of the file. At an `Err` only the file itself may have changed.
abbrev pub ChangesFile : {T E : Type 0} → Result T E → Name → (ℕ → Nodes → Nodes) → Option Nodes → Option Nodes → Type 0
ChangesFile result path change old new =
    MatchResult result (λ _. (time : ℕ) × (new ≡ option_map (change time) old)) (λ _. SameBut path old new)

-- At `Ok` a file of no bytes is at the path, with some time. At an `Err` only the file itself may have changed.
abbrev pub BeginsEmpty : {T E : Type 0} → Result T E → Name → Option Nodes → Option Nodes → Type 0
BeginsEmpty result path old new = ChangesFile result path (with_empty_file path) old new

-- At `Ok` the file has more bytes at its end. At an `Err` only the file itself may have changed.
abbrev pub AppendsFile : {T E : Type 0} → Result T E → Name → List ℕ → Option Nodes → Option Nodes → Type 0
AppendsFile result path bytes old new = ChangesFile result path (lengthened_file path bytes) old new

-- At `Ok true` nothing was at the path, and an empty file is, with some time. At `Ok false` something was, and the tree
-- is as before. At an `Err` only the file itself may have changed.
abbrev pub BeginsNew : {E : Type 0} → Result Bool E → Name → Option Nodes → Option Nodes → Type 0
BeginsNew (Ok true) path old new = IfSome old (λ f. f path ≡ None)
    × ((time : ℕ) × (new ≡ option_map (with_empty_file path time) old))
BeginsNew (Ok false) path old new = IfSome old (λ f. IsSome (f path)) × (new ≡ old)
BeginsNew (Err e) path old new = SameBut path old new
