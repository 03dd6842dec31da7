-- From a listed tree to that of a backup without its control file. Own.
use Rattle.std.specs.Prelude.{Bool, true, false, not, ◌≡◌, ◌≢◌, ◌&&◌, ◌⊎◌, List, [], bytes_eq, Option, Some, None, option_map, Contains}
use Rattle.base_devices.specs.Links.{LinkState}
use Rattle.base_devices.specs.DataFolder.{Nodes, folder, IsTreeListing}
use Rattle.base_devices.specs.declared.data_folder.Node.{Node}
use Rattle.base_devices.specs.declared.data_folder.Node.TheVariants.{File, Folder, Link, Other}
use Rattle.restore_make.specs.Recovered.{Recovery}
use Rattle.base_model.specs.Text.{Text, In, ◌⫽◌}
use Rattle.base_model.specs.Values.{FileEntry, Manifest}
use Rattle.restore_steps.specs.Keeping.{IsFolderAt}
use Rattle.restore_steps.specs.Clearing.{control_path, HasTimed, is_bare, Bares, without, with_folders}
use Rattle.restore_make.specs.Options.{Options, is_added, is_ordinary}
use Rattle.restore_make.specs.Entries.{IsFilled, IsBeside}
use Rattle.restore_make.specs.Kept.{marked, IsKept}
use Rattle.restore_make.specs.Settings.{HasAdded}

-- whether the node is a folder
abbrev pub is_folder : Node → Bool
is_folder (File size time) = false
is_folder Folder = true
is_folder Link = false
is_folder Other = false

-- the control file, or what is in its place, but no folder
abbrev pub is_control_node : Text × Node → Bool
is_control_node s = bytes_eq s.0 control_path && not (is_folder s.1)

-- the listing is of this tree, except for the control file, which was removed
pub record IsListedBut (g : Nodes) (seen : List (Text × Node)) : Type 0 where
  pub listed : Nodes
  pub listing : IsTreeListing listed seen
  pub others : (q : Text) → q ≢ control_path → g q ≡ listed q
  pub control : (g control_path ≡ None) ⊎ ((g control_path ≡ Some folder) × (listed control_path ≡ Some folder))

-- a listed tree without what the manifest doesn't have, with its folders and its files without bytes
pub record IsPrepared (m : Manifest) (seen : List (Text × Node)) (old new : Option Nodes) : Type 0 where
  pub mid : Option Nodes
  pub mid_is : mid ≡ option_map (λ f. with_folders m.folders (without m seen f)) old
  pub bares : Bares m.files mid new

-- All of a restore but the control file: the files without bytes, the ordinary ones by their marks, the settings that
-- are added by now, the folders, and nothing else.
pub record IsPlain (stanza : Text) (links : List LinkState) (o : Options) (m : Manifest) (marks : List Bool)
    (old : Option Nodes) (added : Recovery) (f : Nodes) : Type 0 where
  pub bare : (e : FileEntry) → In e m.files → is_bare e ≡ true → is_added added e.path ≡ false
      → HasTimed e.path [] e.time f
  pub filled : (e : FileEntry) → In (e, false) (marked m.files marks) → is_ordinary o.recovery e ≡ true
      → IsFilled stanza m.label links e f
  pub kept : (e : FileEntry) → In (e, true) (marked m.files marks) → IsKept links o e old f
  pub settings : HasAdded stanza m.label links m.files added f
  pub folder : (path : Text) → In path m.folders → f path ≡ Some folder
  pub nothing : (path : Text) → ¬ In path m.folders
      → ((e : FileEntry) → In e m.files → path ≢ control_path → path ≢ e.path) → is_added added path ≡ false
      → f path ≡ None

-- ---- folders

-- these folders are there, where that is known
abbrev pub HasFolders : List Text → Option Nodes → Type 0
HasFolders folders nodes = (path : Text) → In path folders → IsFolderAt path nodes

-- each of these entries has its folder, which is none of them, nor the temporary name of one
abbrev pub AreHoused : List FileEntry → Option Nodes → Type 0
AreHoused es nodes = (e : FileEntry) → In e es → (prefix last : Text) → e.path ≡ prefix ⫽ last → ¬ Contains last 47
    → IsBeside es prefix × IsFolderAt prefix nodes
