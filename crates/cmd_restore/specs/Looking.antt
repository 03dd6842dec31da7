-- Which data folder a backup may be put into. Own.
use Rattle.std.specs.Prelude.{Bool, true, ◌≡◌, ◌⊎◌, [], ◌∷◌, List, map, codes, Option, None, IfSome, IsSome, string_bytes}
use Rattle.base_devices.specs.DataFolder.{Nodes, IsTreeListing}
use Rattle.base_devices.specs.States.{DataFolderState, FolderFailed}
use Rattle.base_devices.specs.declared.data_folder.FolderEntry.{FolderEntry}
use Rattle.base_devices.specs.declared.data_folder.Node.{Node}
use Rattle.base_model.specs.Text.{Text, In}
use Rattle.restore_steps.specs.Clearing.{seen_of}
use Rattle.cmd_types.specs.Halts.{HaltCause, Only}
use Rattle.cmd_types.specs.declared.stages.halt.Halt.{Halt}
use Rattle.cmd_types.specs.declared.stages.object.Object.TheVariants.{TheDataFolder}
use Rattle.cmd_restore.specs.declared.fault.RestoreCommandFault.{RestoreCommandFault}
use Rattle.cmd_restore.specs.declared.fault.RestoreCommandFault.TheVariants.{Running, NotEmpty}

-- the file that a running server has in its data folder (PostgreSQL manual, "Database File Layout")
abbrev pub server_path : Text
server_path = codes "postmaster.pid"

-- a file that each cluster has (PostgreSQL manual, "Database File Layout")
abbrev pub version_path : Text
version_path = codes "PG_VERSION"

-- it holds nothing
abbrev pub IsEmpty : Nodes → Type 0
IsEmpty f = (path : Text) → f path ≡ None

-- it holds something, of which this is the first path in byte order
abbrev pub IsFirst : Nodes → Text → Type 0
IsFirst f path = (node : Node) × (rest : List (Text × Node)) × IsTreeListing f ((path, node) ∷ rest)

-- it may be restored into: it holds nothing, or with delta the files of a cluster
abbrev pub IsOpen : Bool → Nodes → Type 0
IsOpen delta f = IsEmpty f ⊎ ((delta ≡ true) × IsSome (f version_path))

-- why nothing is put into the folder
abbrev pub FolderCause : Bool → Option Nodes → RestoreCommandFault → Type 0
FolderCause delta nodes Running = IfSome nodes (λ f. IsSome (f server_path))
FolderCause delta nodes (NotEmpty path) =
    IfSome nodes (λ f. (f server_path ≡ None) × IsFirst f (string_bytes path) × (delta ≡ true → f version_path ≡ None))
FolderCause delta nodes other = ⊥

-- ---- the same, by what a listing shows

-- the listing shows a node of this path
abbrev pub IsListed : List (Text × Node) → Text → Type 0
IsListed seen path = (node : Node) × In (path, node) seen

abbrev pub IsSeenOpen : Bool → List (Text × Node) → Type 0
IsSeenOpen delta seen = (seen ≡ []) ⊎ ((delta ≡ true) × IsListed seen version_path)

abbrev pub HoldingCause : Bool → List (Text × Node) → RestoreCommandFault → Type 0
HoldingCause delta seen (NotEmpty path) =
    ((node : Node) × (rest : List (Text × Node)) × (seen ≡ (string_bytes path, node) ∷ rest))
    × (delta ≡ true → ¬ IsListed seen version_path)
HoldingCause delta seen other = ⊥

abbrev pub SeenCause : Bool → List (Text × Node) → RestoreCommandFault → Type 0
SeenCause delta seen Running = IsListed seen server_path
SeenCause delta seen (NotEmpty path) = ¬ IsListed seen server_path × HoldingCause delta seen (NotEmpty path)
SeenCause delta seen other = ⊥

-- ---- over the folder's states

-- where the folder is known, these nodes are its listing
abbrev pub ListsTree : DataFolderState → List FolderEntry → Type 0
ListsTree tree seen = IfSome tree.nodes (λ f. IsTreeListing f (map seen_of seen))

-- why the folder isn't listed, or may not be restored into
abbrev pub LookHalts : Bool → DataFolderState → DataFolderState → Halt RestoreCommandFault → Type 0
LookHalts delta old new halt =
    HaltCause (FolderCause delta old.nodes) (Only TheDataFolder (FolderFailed old new)) halt
