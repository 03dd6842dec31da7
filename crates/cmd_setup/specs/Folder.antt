-- What is read of a data folder.
use Rattle.std.specs.Prelude.{◌≡◌, Bool, Option, Some, option_map, IfSome, IsTrue, take}
use Rattle.base_devices.specs.Cause.{Rises}
use Rattle.base_devices.specs.States.{DataFolderState}
use Rattle.base_devices.specs.DataFolder.{Nodes}
use Rattle.base_model.specs.Text.{Text}
use Rattle.repo_stanza.specs.declared.control.Control.{Control}
use Rattle.cmd_types.specs.declared.stages.fault.StageFault.{StageFault}
use Rattle.cmd_types.specs.declared.stages.halt.Halt.{Halt}
use Rattle.cmd_types.specs.declared.stages.object.Object.TheVariants.{TheDataFolder}
use Rattle.cmd_types.specs.Cluster.{control_bytes, version_bytes, FolderShows, ClusterCause}
use Rattle.cmd_types.specs.Halts.{HaltCause, Only}

-- the first bytes of the control file
abbrev pub IsControlPrefix : Option Nodes → Text → Type 0
IsControlPrefix nodes prefix = IfSome nodes (λ f. option_map (take 16) (control_bytes f) ≡ Some prefix)

-- the first bytes of the version file
abbrev pub IsVersionPrefix : Option Nodes → Text → Type 0
IsVersionPrefix nodes prefix = IfSome nodes (λ f. option_map (take 33) (version_bytes f) ≡ Some prefix)

-- the folder states this
abbrev pub IsKnown : Option Nodes → Control → Type 0
IsKnown nodes known = IfSome nodes (λ f. FolderShows f known)

-- it was asked for, and the folder states none
abbrev pub NoCluster : Bool → Option Nodes → StageFault → Type 0
NoCluster asked nodes fault = IsTrue asked × ClusterCause nodes fault

-- a call on the folder was refused for this, or the folder failed
abbrev pub FolderCause : (Option Nodes → StageFault → Type 0) → DataFolderState → DataFolderState → Halt StageFault →
    Type 0
FolderCause why old new halt = HaltCause (why old.nodes) (Only TheDataFolder (Rises old.faults new.faults)) halt
