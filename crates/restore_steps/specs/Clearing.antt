-- What is removed before the files of a backup are written, and what is made. Own.
use Rattle.std.specs.Prelude.{ℕ, Bool, true, false, not, ◌≡◌, ◌≢◌, ◌⊎◌, ◌==◌, ◌&&◌, codes, List, [], ◌∷◌, map, bytes_eq, Option, Some, None, IfSome, if◌then◌else◌, string_bytes}
use Rattle.std.specs.List.{list_any}
use Rattle.base_devices.specs.Content.{at}
use Rattle.base_devices.specs.Order.{are_in_order}
use Rattle.base_devices.specs.DataFolder.{Nodes, Held, file, folder, file_bytes, with_node, shown, IsPlaced}
use Rattle.base_devices.specs.declared.data_folder.Node.{Node}
use Rattle.base_devices.specs.declared.data_folder.Node.TheVariants.{File, Folder, Link, Other}
use Rattle.base_devices.specs.declared.data_folder.FolderEntry.{FolderEntry}
use Rattle.base_model.specs.ManifestText.{HasItsFolders}
use Rattle.base_model.specs.Text.{Text, In, ◌⫽◌}
use Rattle.base_model.specs.Values.{FileEntry, Manifest}

-- the file without which no server starts
abbrev pub control_path : Text
control_path = codes "global/pg_control"

abbrev pub has_path : List Text → Text → Bool
has_path paths q = list_any (λ p. bytes_eq p q) paths

-- A node stays where the manifest has its path as a node of its kind. The control file is written anew.
abbrev pub stays : Manifest → Text → Node → Bool
stays m path (File size time) = has_path (map (λ e. e.path) m.files) path && not (bytes_eq path control_path)
stays m path Folder = has_path m.folders path
stays m path Link = false
stays m path Other = false

-- files and folders are in byte order of their paths
pub record IsOrdered (m : Manifest) : Type 0 where
  pub files : are_in_order (map (λ e. e.path) m.files) ≡ true
  pub folders : are_in_order m.folders ≡ true

abbrev pub seen_of : FolderEntry → Text × Node
seen_of s = (string_bytes s.path, s.node)

-- one node removed, unless it stays
abbrev pub without_one : Manifest → Text × Node → Nodes → Nodes
without_one m s f = if stays m s.0 s.1 then f else with_node s.0 None f

-- all of these that don't stay, the last first
abbrev pub without : Manifest → List (Text × Node) → Nodes → Nodes
without m [] f = f
without m (s ∷ ss) f = without_one m s (without m ss f)

-- the path isn't listed, or its node stays
abbrev pub IsSpared : Manifest → List (Text × Node) → Text → Type 0
IsSpared m ss q = (node : Node) → In (q, node) ss → stays m q node ≡ true

-- all that is there is listed in byte order of the paths, each folder on a path among it
pub record IsListed (ss : List (Text × Node)) (f : Nodes) : Type 0 where
  pub all : (q : Text) (held : Held) → f q ≡ Some held → (node : Node) × In (q, node) ss
  pub folders : (prefix rest : Text) (node : Node) → In (prefix ⫽ rest, node) ss → In (prefix, Folder) ss
  pub order : are_in_order (map (λ s. s.0) ss) ≡ true

-- each folder on a path of the manifest is among its folders
abbrev pub HaveTheirFolders : Manifest → Type 0
HaveTheirFolders m = (q : Text) → In q (map (λ e. e.path) m.files) ⊎ In q m.folders → HasItsFolders m.folders q

-- what is left at a path
abbrev pub left_at : Manifest → Text → Option Held → Option Held
left_at m path None = None
left_at m path (Some held) = if stays m path (shown held) then Some held else None

-- with these folders, the first first
abbrev pub with_folders : List Text → Nodes → Nodes
with_folders [] f = f
with_folders (p ∷ ps) f = with_folders ps (with_node p (Some folder) f)

-- no file is at the path, where that is known
abbrev pub HasNone : Text → Option Nodes → Type 0
HasNone path nodes = IfSome nodes (λ f. file_bytes (f path) ≡ None)

-- where there was none there is none
abbrev pub StaysNone : Text → Option Nodes → Option Nodes → Type 0
StaysNone path old new = HasNone path old → HasNone path new

-- ---- files without bytes

-- the tree has a file of these bytes at the path
abbrev pub HasFile : Text → Text → Nodes → Type 0
HasFile path bytes f = (time : ℕ) × (f path ≡ Some (file bytes time))

-- the same, with this time
abbrev pub HasTimed : Text → Text → ℕ → Nodes → Type 0
HasTimed path bytes time f = f path ≡ Some (file bytes time)

-- it has no bytes, and isn't the control file
abbrev pub is_bare : FileEntry → Bool
is_bare e = (e.size == 0) && not (bytes_eq e.path control_path)

-- the files without bytes are there, each with its time, and nothing else has changed
pub record Bares (es : List FileEntry) (old new : Option Nodes) : Type 0 where
  pub each : (e : FileEntry) → In e es → is_bare e ≡ true → IfSome new (HasTimed e.path [] e.time)
  pub others : (q : Text) → ((e : FileEntry) → In e es → is_bare e ≡ true → q ≢ e.path) → at q new ≡ at q old

-- each of these files has its folder, and none is the folder of another
pub record ArePlaced (es : List FileEntry) (nodes : Option Nodes) : Type 0 where
  pub each : (e : FileEntry) → In e es → IsPlaced nodes e.path
  pub apart : (d e : FileEntry) → In d es → In e es → (prefix last : Text) → e.path ≡ prefix ⫽ last → d.path ≢ prefix
