-- What listings of a disk and of a data folder in memory show.
use Rattle.std.specs.declared.alloc.Global.{Global}
use Rattle.std.specs.Prelude.{◌≡◌, ◌↔◌, ◌∷◌, ◌++◌, ℕ, true, List, Option, Some, String, Vec, Contains, map, length, string_bytes}
use Rattle.base_devices.specs.declared.disk.Found.{Found}
use Rattle.base_devices.specs.declared.data_folder.FolderEntry.{FolderEntry}
use Rattle.base_devices.specs.declared.data_folder.ReadableFile.{ReadableFile}
use Rattle.base_devices.specs.Content.{Name, Value, Content, IsFolderName, IsListing, AreFolders, Reads}
use Rattle.base_devices.specs.DataFolder.{Nodes, IsTreeListing, IsFolderListing, known_path, file_bytes}
use Rattle.base_devices.specs.Moments.{View}
use Rattle.memory_devices.specs.Replay.{NameStates, value_of}
use Rattle.memory_devices.specs.State.{Among}

-- ---- a disk

-- these are the names below the folder
abbrev pub ListsContent : Name → Content → List Found → Type 0
ListsContent folder f found = IsListing folder f (map (λ x. (string_bytes x.name, x.size)) found)

-- these are the folders in the folder
abbrev pub HoldsFolders : Name → Content → List (String Global) → Type 0
HoldsFolders folder f known = AreFolders folder f (map string_bytes known)

-- they are those of each content of which the others are the names
abbrev pub FoldersAmong : Name → List Found → List (String Global) → Type 0
FoldersAmong folder found known = (f : Content) → ListsContent folder f found → HoldsFolders folder f known

-- where the path begins with the name of a folder, it is this
abbrev pub IsFirstFolder : Name → Option Name → Type 0
IsFirstFolder path first = (x rest : Name) → IsFolderName x → path ≡ x ++ 47 ∷ rest → first ≡ Some x

-- where it leads through a folder directly in this one, it is this
abbrev pub IsFolderWithin : Name → Name → Option Name → Type 0
IsFolderWithin path folder first = (x rest : Name) → IsFolderName x → path ≡ folder ++ 47 ∷ x ++ 47 ∷ rest
    → first ≡ Some x

-- these are the names at which a crash at the moment may leave any bytes
abbrev pub ListsUnsynced : View → ℕ → List (String Global) → Type 0
ListsUnsynced v moment names = (n : Name) → Contains (map string_bytes names) n ↔ (v.unsynced moment n ≡ true)

-- these are the unsynced ones
abbrev pub ListsUnsyncedIn : NameStates → List (String Global) → Type 0
ListsUnsyncedIn states names = (n : Name) → Contains (map string_bytes names) n ↔ ((states n).unsynced ≡ true)

-- these are the values that a crash at the moment may leave at the name
abbrev pub ListsKept : View → ℕ → Name → List (Option (Vec ℕ Global)) → Type 0
ListsKept v moment name values = (x : Value) → Among x (map value_of values) ↔ v.kept moment name x

-- ---- a data folder

-- these are its nodes
abbrev pub ListsNodes : Nodes → List FolderEntry → Type 0
ListsNodes nodes seen = IsTreeListing nodes (map (λ s. (string_bytes s.path, s.node)) seen)

-- these are those right within a folder
abbrev pub ListsNodesWithin : Name → Nodes → List FolderEntry → Type 0
ListsNodesWithin folder nodes seen = IsFolderListing nodes folder (map (λ s. (string_bytes s.path, s.node)) seen)

-- the bytes of a known file, where it is one that is there
abbrev pub known_bytes : Nodes → ReadableFile → Value
known_bytes nodes what = file_bytes (nodes (known_path what))

-- what a read of it into a buffer gives
abbrev pub ReadsKnown : Nodes → ReadableFile → ℕ → List ℕ → List ℕ → Option ℕ → Type 0
ReadsKnown nodes what at old_buf new_buf answer = Reads (known_bytes nodes what) at (length old_buf) new_buf answer
