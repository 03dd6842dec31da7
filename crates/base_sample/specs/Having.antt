-- What a data folder has of a sample cluster, and why none is made in it. Own.
use Rattle.std.specs.Prelude.{◌≡◌, ℕ, Option, Some, None, IfSome, string_bytes}
use Rattle.base_devices.specs.Content.{Name, Content, at}
use Rattle.base_devices.specs.DataFolder.{Nodes, Held, file}
use Rattle.base_model.specs.Restored.{HoldsTree}
use Rattle.base_model.specs.Text.{Text, In}
use Rattle.base_sample.specs.Folder.{sample_folders, made}
use Rattle.base_sample.specs.declared.folder.fault.FolderFault.{FolderFault}
use Rattle.base_sample.specs.declared.folder.fault.FolderFault.TheVariants.{NotEmpty, DataFolder, NoMemory}

-- nothing is there
abbrev pub IsEmpty : Nodes → Type 0
IsEmpty f = (path : Name) → f path ≡ None

abbrev pub nothing : Content
nothing = λ path. None

-- where it is known, it has these files, at any times, the folders of a sample cluster, and nothing else
abbrev pub Has : Content → Option Nodes → Type 0
Has c nodes = IfSome nodes (HoldsTree c sample_folders)

-- a file of these bytes is at the path
abbrev pub HasFile : Text → Text → Nodes → Type 0
HasFile path bytes f = (time : ℕ) × (f path ≡ Some (file bytes time))

-- besides the paths of the sample cluster of this number all is unchanged
abbrev pub KeepsOthers : ℕ → Option Nodes → Option Nodes → Type 0
KeepsOthers n old new = (q : Name) → made n q ≡ None → ¬ In q sample_folders → at q new ≡ at q old

-- something is at the path
abbrev pub IsTaken : Text → Nodes → Type 0
IsTaken path f = (held : Held) × (f path ≡ Some held)

-- why no cluster is made
abbrev pub FolderCause : Option Nodes → Type 0 → FolderFault → Type 0
FolderCause nodes rose (NotEmpty path) = IfSome nodes (IsTaken (string_bytes path))
FolderCause nodes rose DataFolder = rose
FolderCause nodes rose NoMemory = Unit {0}

-- a folder that isn't empty is left alone
abbrev pub IfFull : FolderFault → Type 0 → Type 0
IfFull (NotEmpty path) P = P
IfFull other P = Unit {0}
