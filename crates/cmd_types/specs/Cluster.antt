-- What a data folder says about its cluster.
use Rattle.std.specs.Prelude.{◌≡◌, ℕ, Vec, option_map, take, Option, Some, None, IfSome, IsSome, IsSomeAnd}
use Rattle.base_devices.specs.Content.{Value}
use Rattle.std.specs.declared.alloc.Global.{Global}
use Rattle.base_devices.specs.DataFolder.{Nodes, file_bytes, known_path}
use Rattle.base_devices.specs.States.{DataFolderState}
use Rattle.base_devices.specs.declared.data_folder.ReadableFile.{ReadableFile}
use Rattle.base_devices.specs.declared.data_folder.ReadableFile.TheVariants.{Control as ControlName, Version as VersionName}
use Rattle.base_model.specs.Text.{Text}
use Rattle.base_model.specs.declared.clusters.Cluster.{Cluster}
use Rattle.repo_stanza.specs.declared.control.Control.{Control as Known}
use Rattle.repo_stanza.specs.declared.control.ControlFault.TheVariants.{ControlShort as ShortControl, VersionText as NoVersion, VersionUnsupported as OtherVersion}
use Rattle.repo_stanza.specs.ControlFile.{Shows, IsRefused, first_cluster}
use Rattle.cmd_types.specs.declared.stages.fault.ControlFile.TheVariants.{Control, Version}
use Rattle.cmd_types.specs.declared.stages.fault.StageFault.{StageFault}
use Rattle.cmd_types.specs.declared.stages.fault.StageFault.TheVariants.{ControlMissing, ControlShort, VersionText, VersionUnsupported}

-- the bytes of the control file and of the version file
abbrev pub control_bytes : Nodes → Value
control_bytes f = file_bytes (f (known_path ControlName))

abbrev pub version_bytes : Nodes → Value
version_bytes f = file_bytes (f (known_path VersionName))

-- where the folder is known, these are the first bytes of a known file, at most this many; none where it is absent
abbrev pub IsFilePrefix : ReadableFile → ℕ → DataFolderState → Option (Vec ℕ Global) → Type 0
IsFilePrefix what limit folder found = IfSome folder.nodes (λ f.
    option_map (λ (v : Vec ℕ Global). v.items) found ≡ option_map (take limit) (file_bytes (f (known_path what))))

-- both files are there, and this holds of their bytes
abbrev pub OfBoth : Nodes → (Text → Text → Type 0) → Type 0
OfBoth f P = IsSomeAnd (control_bytes f) (λ control. IsSomeAnd (version_bytes f) (P control))

-- the folder states this
abbrev pub FolderShows : Nodes → Known → Type 0
FolderShows f known = OfBoth f (λ control version. Shows control version known)

-- the cluster of a new stanza for the folder, where one is known
abbrev pub IsClusterOf : Nodes → Option Cluster → Type 0
IsClusterOf f None = (known : Known) → ¬ FolderShows f known
IsClusterOf f (Some c) = (known : Known) × FolderShows f known × (c ≡ first_cluster known)

-- why the folder states no cluster
abbrev pub ClusterCause : Option Nodes → StageFault → Type 0
ClusterCause nodes (ControlMissing Control) = IfSome nodes (λ f. control_bytes f ≡ None)
ClusterCause nodes (ControlMissing Version) = IfSome nodes (λ f. IsSome (control_bytes f) × (version_bytes f ≡ None))
ClusterCause nodes (ControlShort length) =
    IfSome nodes (λ f. OfBoth f (λ control version. IsRefused control version (ShortControl length)))
ClusterCause nodes VersionText = IfSome nodes (λ f. OfBoth f (λ control version. IsRefused control version NoVersion))
ClusterCause nodes (VersionUnsupported version) =
    IfSome nodes (λ f. OfBoth f (λ control text. IsRefused control text (OtherVersion version)))
ClusterCause nodes other = ⊥
