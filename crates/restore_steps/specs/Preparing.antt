-- What is left of a data folder that is made ready for a backup's files. Own.
use Rattle.std.specs.Prelude.{◌≡◌, ◌≢◌, true, false, [], List, map, option_map, IfSome, string_bytes}
use Rattle.base_devices.specs.Content.{at}
use Rattle.base_devices.specs.DataFolder.{IsBare}
use Rattle.base_devices.specs.Order.{are_in_order}
use Rattle.base_devices.specs.States.{DataFolderState}
use Rattle.base_devices.specs.declared.data_folder.FolderEntry.{FolderEntry}
use Rattle.base_model.specs.ManifestText.{HasItsFolders}
use Rattle.base_model.specs.Text.{Text, In}
use Rattle.base_model.specs.Values.{FileEntry, manifest_of}
use Rattle.base_model.specs.declared.files.Manifest.{Manifest}
use Rattle.restore_steps.specs.Clearing.{stays, seen_of, without_one, without, with_folders, is_bare, IsSpared, IsListed, HaveTheirFolders, HasTimed, Bares}

-- ---- one node that is removed, unless it stays

-- the node is gone, unless it stays
abbrev pub ClearsNode : Manifest → FolderEntry → DataFolderState → DataFolderState → Type 0
ClearsNode manifest node old new = new.nodes ≡ option_map (without_one (manifest_of manifest) (seen_of node)) old.nodes

-- nothing else has changed, and not even that where it stays
abbrev pub SparesBesideNode : Manifest → FolderEntry → DataFolderState → DataFolderState → Type 0
SparesBesideNode manifest node old new = (q : Text)
    → (stays (manifest_of manifest) (string_bytes node.path) node.node ≡ false → q ≢ string_bytes node.path)
    → at q new.nodes ≡ at q old.nodes

-- where nothing lies below a node that doesn't stay, no call is faulty
abbrev pub ClearsNodeProperly : Manifest → FolderEntry → DataFolderState → DataFolderState → Type 0
ClearsNodeProperly manifest node old new =
    (stays (manifest_of manifest) (string_bytes node.path) node.node ≡ false
    → IsBare old.nodes (string_bytes node.path))
    → new.faulty_calls ≡ old.faulty_calls

-- ---- all nodes of a listing that don't stay

-- of the listed nodes those are left that stay
abbrev pub ClearsTree : Manifest → List FolderEntry → DataFolderState → DataFolderState → Type 0
ClearsTree manifest seen old new =
    new.nodes ≡ option_map (without (manifest_of manifest) (map seen_of seen)) old.nodes

-- nothing that isn't listed, or stays, has changed
abbrev pub SparesOthers : Manifest → List FolderEntry → DataFolderState → DataFolderState → Type 0
SparesOthers manifest seen old new = (q : Text) → IsSpared (manifest_of manifest) (map seen_of seen) q
    → at q new.nodes ≡ at q old.nodes

-- where all that is there is listed, and the manifest has its files' folders, no call is faulty
abbrev pub ClearsProperly : Manifest → List FolderEntry → DataFolderState → DataFolderState → Type 0
ClearsProperly manifest seen old new = IfSome old.nodes (IsListed (map seen_of seen))
    → HaveTheirFolders (manifest_of manifest)
    → new.faulty_calls ≡ old.faulty_calls

-- ---- folders

-- these folders are there, besides what was
abbrev pub MakesFolders : List Text → DataFolderState → DataFolderState → Type 0
MakesFolders folders old new = new.nodes ≡ option_map (with_folders folders) old.nodes

-- where they are in byte order, each with the folders on its path among them, no call is faulty
abbrev pub MakesProperly : List Text → DataFolderState → DataFolderState → Type 0
MakesProperly folders old new = are_in_order folders ≡ true
    → ((p : Text) → In p folders → HasItsFolders folders p)
    → new.faulty_calls ≡ old.faulty_calls

-- ---- files without bytes

-- a file that has no bytes is there, with its time
abbrev pub HasBare : FileEntry → DataFolderState → Type 0
HasBare e tree = is_bare e ≡ true → IfSome tree.nodes (HasTimed e.path [] e.time)

-- only a file that has no bytes has changed
abbrev pub ChangesBareFile : FileEntry → DataFolderState → DataFolderState → Type 0
ChangesBareFile e old new = (q : Text) → (is_bare e ≡ true → q ≢ e.path) → at q new.nodes ≡ at q old.nodes

-- the files that have no bytes are there, each with its time
abbrev pub BeginsBare : List FileEntry → DataFolderState → DataFolderState → Type 0
BeginsBare es old new = Bares es old.nodes new.nodes

-- only these of them have changed
abbrev pub ChangesBareFiles : List FileEntry → DataFolderState → DataFolderState → Type 0
ChangesBareFiles es old new = (q : Text) → ((e : FileEntry) → In e es → is_bare e ≡ true → q ≢ e.path)
    → at q new.nodes ≡ at q old.nodes
