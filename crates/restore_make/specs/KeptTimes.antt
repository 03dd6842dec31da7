-- The times that files which are kept are given. Own.
use Rattle.std.specs.Prelude.{Bool, true, ◌≡◌, ◌≢◌, List, [], ◌∷◌, map, Option, option_map}
use Rattle.base_devices.specs.Content.{at}
use Rattle.base_devices.specs.DataFolder.{Nodes, with_time, IsFileAt}
use Rattle.base_devices.specs.States.{DataFolderState}
use Rattle.base_devices.specs.declared.data_folder.Node.{Node}
use Rattle.base_model.specs.declared.files.FileEntry as rust_file
use Rattle.base_model.specs.Text.{Text, In}
use Rattle.base_model.specs.Values.{FileEntry, file_entry_of}
use Rattle.restore_make.specs.Kept.{marked, IsShown}
use Rattle.restore_make.specs.Options.{Options, is_ordinary}

-- the path is that of no marked entry
abbrev pub IsUnmarked : List (FileEntry × Bool) → Text → Type 0
IsUnmarked ps q = (e : FileEntry) → In (e, true) ps → q ≢ e.path

-- a file is there for each marked entry, where that is known
abbrev pub AreThere : List (FileEntry × Bool) → Option Nodes → Type 0
AreThere ps nodes = (e : FileEntry) → In (e, true) ps → IsFileAt nodes e.path

-- the file of each marked entry has the entry's time, and nothing else has changed
pub record SetsTimes (ps : List (FileEntry × Bool)) (old new : Option Nodes) : Type 0 where
  pub each : (e : FileEntry) → In (e, true) ps → at e.path new ≡ option_map (with_time e.time) (at e.path old)
  pub others : (q : Text) → IsUnmarked ps q → at q new ≡ at q old

-- each marked entry is an ordinary one, and the listing shows a file of its path
abbrev pub OnlyShown : Options → List (Text × Node) → List FileEntry → List Bool → Type 0
OnlyShown o seen es marks = (e : FileEntry) → In (e, true) (marked es marks)
    → (is_ordinary o.recovery e ≡ true) × IsShown seen e

-- ---- over what the calls are given

-- an entry of the code with its mark
abbrev pub one_marked : rust_file.FileEntry → Bool → List (FileEntry × Bool)
one_marked file kept = (file_entry_of file, kept) ∷ []

-- and each of these
abbrev pub all_marked : List rust_file.FileEntry → List Bool → List (FileEntry × Bool)
all_marked files marks = marked (map file_entry_of files) marks

-- the files of the marked entries have their times
abbrev pub TimesMarked : List (FileEntry × Bool) → DataFolderState → DataFolderState → Type 0
TimesMarked ps old new = SetsTimes ps old.nodes new.nodes
