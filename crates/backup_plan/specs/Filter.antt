-- What a backup takes of a listing, and why a listing is refused (pgBackRest user guide, "Backup"; PostgreSQL manual,
-- "Database File Layout"; some own).
use Rattle.std.specs.Prelude.{◌≡◌, ◌≢◌, ◌⊎◌, ◌≤◌, ◌<◌, ◌^◌, ◌&&◌, not, ℕ, Bool, true, false, List, [], ◌∷◌, ◌++◌, map, filter, length, codes, sum_by, string_bytes}
use Rattle.base_devices.specs.declared.data_folder.Node.{Node}
use Rattle.base_devices.specs.declared.data_folder.Node.TheVariants as nodes
use Rattle.base_devices.specs.Crash.{IsTemporary}
use Rattle.base_devices.specs.DataFolder.{Nodes, IsTreeListing}
use Rattle.base_devices.specs.Order.{are_in_order}
use Rattle.base_model.specs.Text.{Text, In}
use Rattle.base_model.specs.Paths.{IsPath}
use Rattle.base_model.specs.ManifestText.{HasItsFolders, IsFolder}
use Rattle.repo_names.specs.Faults.{IsNameFault}
use Rattle.backup_plan.specs.declared.fault.PlanFault.{PlanFault}
use Rattle.backup_plan.specs.declared.fault.PlanFault.TheVariants as faults
use Rattle.backup_plan.specs.Omitted.{is_omitted}
use Rattle.backup_plan.specs.Listed.{Taken, control_path}

-- a node of a listing, with its path
abbrev pub ListedNode : Type 0
ListedNode = Text × Node

abbrev pub is_special : Node → Bool
is_special nodes.Other = true
is_special (nodes.File size time) = false
is_special nodes.Folder = false
is_special nodes.Link = false

-- neither left out, nor a socket, a pipe or a device
abbrev pub is_kept : Bool → ListedNode → Bool
is_kept online n = not (is_omitted online n.0 n.1) && not (is_special n.1)

-- no folder has exactly these nodes
abbrev pub ShowsNoFolder : List ListedNode → Type 0
ShowsNoFolder seen = (folder : Nodes) → ¬ IsTreeListing folder seen

-- the nodes that a backup looks at
abbrev pub kept : Bool → List ListedNode → List ListedNode
kept online seen = filter (is_kept online) seen

-- the files among them, and the folders
abbrev pub file_at : Text → Node → List Taken
file_at path (nodes.File size time) = record { path = path; size = size; time = time } ∷ []
file_at path nodes.Folder = []
file_at path nodes.Link = []
file_at path nodes.Other = []

abbrev pub folder_at : Text → Node → List Text
folder_at path nodes.Folder = path ∷ []
folder_at path (nodes.File size time) = []
folder_at path nodes.Link = []
folder_at path nodes.Other = []

abbrev pub files_of : List ListedNode → List Taken
files_of [] = []
files_of (n ∷ ns) = file_at n.0 n.1 ++ files_of ns

abbrev pub folders_of : List ListedNode → List Text
folders_of [] = []
folders_of (n ∷ ns) = folder_at n.0 n.1 ++ folders_of ns

abbrev pub paths_of : List Taken → List Text
paths_of fs = map (λ (f : Taken). f.path) fs

-- ---- what is refused

-- the node may be in a backup
pub record IsFine (n : ListedNode) : Type 0 where
  pub no_link : n.1 ≢ nodes.Link
  pub path : IsPath n.0

abbrev pub AreFine : List ListedNode → Type 0
AreFine ns = (n : ListedNode) → In n ns → IsFine n

-- the first of the nodes that isn't fine is so
pub record IsFirst (P : ListedNode → Type 0) (ns : List ListedNode) : Type 0 where
  pub prefix : List ListedNode
  pub node : ListedNode
  pub back : List ListedNode
  pub is : ns ≡ prefix ++ node ∷ back
  pub fine : AreFine prefix
  pub has : P node

-- each folder on the file's path is among these, and its path is no folder's
pub record IsPlaced (folders : List Text) (f : Taken) : Type 0 where
  pub below : HasItsFolders folders f.path
  pub apart : ¬ In f.path folders

-- each file is placed so
abbrev pub ArePlaced : List Text → List Taken → Type 0
ArePlaced folders fs = (f : Taken) → In f fs → IsPlaced folders f

-- each folder on the path of one of these is among them
abbrev pub HaveTheirFolders : List Text → Type 0
HaveTheirFolders folders = (path : Text) → In path folders → HasItsFolders folders path

-- files and folders in byte order of their paths, each below folders that are among them
pub record IsOrdered (fs : List Taken) (folders : List Text) : Type 0 where
  pub files : are_in_order (paths_of fs) ≡ true
  pub folders_order : are_in_order folders ≡ true
  pub placed : ArePlaced folders fs
  pub below : HaveTheirFolders folders

-- the file that states a server's version
abbrev pub version_path : Text
version_path = codes "PG_VERSION"

-- one of the files has this path
abbrev pub HasFile : Text → List Taken → Type 0
HasFile path fs = In path (paths_of fs)

-- a backup has at most this many files (own), and this many bytes
abbrev pub most_files : ℕ
most_files = 1000000

abbrev pub most_bytes : ℕ
most_bytes = 2 ^ 62

abbrev pub size_of : List Taken → ℕ
size_of fs = sum_by (λ (f : Taken). f.size) fs

-- what a backup can't do without
pub record HasControl (fs : List Taken) : Type 0 where
  pub version : HasFile version_path fs
  pub control : HasFile control_path fs

-- neither limit is passed
pub record IsWithinLimits (fs : List Taken) : Type 0 where
  pub files : length fs ≤ most_files
  pub bytes : size_of fs ≤ most_bytes

-- ---- what is taken

-- a file that a backup may hold
pub record IsTaken (folders : List Text) (f : Taken) : Type 0 where
  pub path : IsPath f.path
  pub lasting : ¬ IsTemporary f.path
  pub placed : HasItsFolders folders f.path
  pub signal : (f.path ≢ codes "recovery.signal") × (f.path ≢ codes "standby.signal")
  pub time : f.time < 2 ^ 64

-- The files and folders of a listing, in byte order of their paths, and no path is both.
pub record IsListing (fs : List Taken) (folders : List Text) : Type 0 where
  pub files : (f : Taken) → In f fs → IsTaken folders f
  pub folders_hold : (path : Text) → In path folders → IsFolder folders path
  pub file_order : are_in_order (paths_of fs) ≡ true
  pub folder_order : are_in_order folders ≡ true
  pub apart : (path : Text) → In path (paths_of fs) → ¬ In path folders
  pub sizes : size_of fs ≤ most_bytes

-- These are all files and folders of the listing that aren't left out, and a backup may be made of them.
pub record Takes (online : Bool) (seen : List ListedNode) (fs : List Taken) (folders : List Text) : Type 0 where
  pub fine : AreFine (kept online seen)
  pub files : fs ≡ files_of (kept online seen)
  pub folders_are : folders ≡ folders_of (kept online seen)
  pub control : HasControl fs
  pub few : length fs ≤ most_files
  pub listing : IsListing fs folders

-- the files and folders are fine and in order
pub record IsWhole (ns : List ListedNode) : Type 0 where
  pub fine : AreFine ns
  pub order : IsOrdered (files_of ns) (folders_of ns)

-- no file has the path: that of the version, or else that of the control file
abbrev pub IsMissing : Text → List Taken → Type 0
IsMissing path fs = (¬ HasFile path fs) × ((path ≡ version_path) ⊎ ((path ≡ control_path) × HasFile version_path fs))

-- the limit is passed: that of files, or else that of bytes
abbrev pub IsPast : ℕ → List Taken → Type 0
IsPast limit fs = ((limit ≡ most_files) × (most_files < length fs))
    ⊎ ((limit ≡ most_bytes) × (length fs ≤ most_files) × (most_bytes < size_of fs))

-- a file's time is a number of 64 bits
abbrev pub IsTimed : ListedNode → Type 0
IsTimed n = (f : Taken) → In f (file_at n.0 n.1) → f.time < 2 ^ 64

abbrev pub AreTimed : List ListedNode → Type 0
AreTimed ns = (n : ListedNode) → In n ns → IsTimed n

-- why a node is refused by itself
abbrev pub IsRefusedNode : ListedNode → PlanFault → Type 0
IsRefusedNode n (faults.LinkFound path) = (n.0 ≡ string_bytes path) × (n.1 ≡ nodes.Link)
IsRefusedNode n (faults.NameRefused path fault) = (n.0 ≡ string_bytes path) × (n.1 ≢ nodes.Link) × IsNameFault n.0 fault
IsRefusedNode n faults.Unordered = ⊥
IsRefusedNode n (faults.ControlMissing path) = ⊥
IsRefusedNode n (faults.TooMany limit) = ⊥
IsRefusedNode n faults.NoMemory = Unit {0}

-- why the nodes are refused
abbrev pub IsRefused : List ListedNode → PlanFault → Type 0
IsRefused ns (faults.LinkFound path) = IsFirst (λ n. IsRefusedNode n (faults.LinkFound path)) ns
IsRefused ns (faults.NameRefused path fault) = IsFirst (λ n. IsRefusedNode n (faults.NameRefused path fault)) ns
IsRefused ns faults.Unordered = AreFine ns × ¬ IsOrdered (files_of ns) (folders_of ns)
IsRefused ns (faults.ControlMissing path) = IsWhole ns × IsMissing (string_bytes path) (files_of ns)
IsRefused ns (faults.TooMany limit) = IsWhole ns × HasControl (files_of ns) × IsPast limit (files_of ns)
IsRefused ns faults.NoMemory = Unit {0}
