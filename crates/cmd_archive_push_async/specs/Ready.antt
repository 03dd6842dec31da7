-- Which files of the log are ready (PostgreSQL: a server makes `archive_status/NAME.ready` for each file that it wants
-- archived).
use Rattle.std.specs.Prelude.{◌≡◌, ◌≢◌, ◌++◌, Bool, true, false, List, map, codes, Some, IsSome, string_bytes}
use Rattle.base_devices.specs.Content.{Name}
use Rattle.base_devices.specs.Order.{are_in_order}
use Rattle.base_devices.specs.DataFolder.{Nodes, file_bytes}
use Rattle.base_devices.specs.declared.data_folder.Node.{Node}
use Rattle.base_devices.specs.declared.data_folder.Node.TheVariants.{File, Folder, Link, Other}
use Rattle.base_devices.specs.declared.data_folder.FolderEntry.{FolderEntry}
use Rattle.base_model.specs.declared.wal.ArchiveName.{ArchiveName}
use Rattle.base_model.specs.Names.{wal_text}
use Rattle.base_model.specs.Represents.{IsWalName}
use Rattle.base_model.specs.Steps.{Named}
use Rattle.base_model.specs.Text.{In}
use Rattle.cmd_archive_push.specs.WalPath.{wal_path}

-- where the server says that the file is ready
abbrev pub ready_path : ArchiveName → Name
ready_path name = codes "pg_wal/archive_status/" ++ (wal_text name ++ codes ".ready")

-- it is
abbrev pub IsReady : Nodes → ArchiveName → Type 0
IsReady f name = IsSome (file_bytes (f (ready_path name)))

-- it is, and the data folder has these bytes of it
pub record IsReadyAs (f : Nodes) (file : Named) : Type 0 where
  pub ready : IsReady f file.name
  pub has : file_bytes (f (wal_path (wal_text file.name))) ≡ Some file.bytes

-- these are the files that are ready, each once, in byte order of their names
pub record AreReady (f : Nodes) (names : List ArchiveName) : Type 0 where
  pub each : (name : ArchiveName) → In name names → IsReady f name
  pub all : (name : ArchiveName) → IsWalName name → IsReady f name → In name names
  pub order : are_in_order (map ready_path names) ≡ true

-- ---- of one node of the folder's listing

-- the node is a file
abbrev pub is_file : Node → Bool
is_file (File size time) = true
is_file Folder = false
is_file Link = false
is_file Other = false

-- the node says that this file is ready
pub record ShowsReady (seen : FolderEntry) (name : ArchiveName) : Type 0 where
  pub fits : IsWalName name
  pub path : string_bytes seen.path ≡ ready_path name
  pub file : is_file seen.node ≡ true

-- it says so of none
abbrev pub PassesReady : FolderEntry → Type 0
PassesReady seen = (name : ArchiveName) → IsWalName name → is_file seen.node ≡ true
    → string_bytes seen.path ≢ ready_path name
