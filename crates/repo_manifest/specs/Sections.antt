-- The sections of a manifest, each by itself.
use Rattle.std.specs.Prelude.{◌≡◌, ◌≢◌, ◌⊎◌, ◌+◌, ◌<◌, ◌≤◌, ◌^◌, List, ◌∷◌, ◌++◌, map, codes, sum_by, String, string_bytes}
use Rattle.std.specs.declared.alloc.Global.{Global}
use Rattle.serde_json.specs.Data.{Data, object, no_members}
use Rattle.base_model.specs.declared.files.FileEntry as code
use Rattle.base_model.specs.Text.{Text, In, ◌⫽◌}
use Rattle.base_model.specs.InfoText.{Section}
use Rattle.base_model.specs.Fields.{Field, section}
use Rattle.base_model.specs.ManifestText.{data_path, file_field, folder_field, HasItsFolders}
use Rattle.base_model.specs.Values.{FileEntry, file_entry_of}
use Rattle.repo_keys.specs.Agree.{IsKeysOf}
use Rattle.repo_manifest.specs.Alone.{IsFile, IsDirectory}

-- the sections of the files and folders
abbrev pub target_file : Text
target_file = codes "target:file"

abbrev pub target_path : Text
target_path = codes "target:path"

-- the data folder itself, which each manifest lists
abbrev pub root_field : Field
root_field = (codes "pg_data", object no_members)

-- what the files and folders of the code represent
abbrev pub entries_of : List code.FileEntry → List FileEntry
entries_of files = map file_entry_of files

abbrev pub folder_paths : List (String Global) → List Text
folder_paths folders = map string_bytes folders

-- the fields of folders, after that of the data folder
abbrev pub folder_fields : List (String Global) → List Field
folder_fields folders = root_field ∷ map folder_field (folder_paths folders)

-- the section of these files, left out where there is none
abbrev pub file_section : List code.FileEntry → List Section
file_section files = section target_file (map file_field (entries_of files))

-- the sections state these files, and these folders
abbrev pub StatesFiles : List Section → List code.FileEntry → Type 0
StatesFiles ss files = IsKeysOf ss target_file (map file_field (entries_of files))

abbrev pub StatesFolders : List Section → List (String Global) → Type 0
StatesFolders ss folders = IsKeysOf ss target_path (folder_fields folders)

-- the field states a folder, or none
abbrev pub StatesFolder : Field → Text → Type 0
StatesFolder k p = IsDirectory p × (k ≡ folder_field p)

abbrev pub StatesNoFolder : Field → Type 0
StatesNoFolder k = (p : Text) → IsDirectory p → k ≢ folder_field p

-- the key has something there that no file has
abbrev pub IsNoFile : List Field → Text → Type 0
IsNoFile ks key = (d : Data) × In (key, d) ks
    × ((e : FileEntry) → IsFile e → (let k : Field = (key, d) in k) ≢ file_field e)

-- The key has something there that neither the data folder nor a folder in it has; or it is the data folder's, and
-- isn't there.
abbrev pub IsNoFolder : List Field → Text → Type 0
IsNoFolder ks key = ((d : Data) × In (key, d) ks × ((let k : Field = (key, d) in k) ≢ root_field)
    × ((p : Text) → IsDirectory p → (let k : Field = (key, d) in k) ≢ folder_field p))
    ⊎ ((key ≡ codes "pg_data") × ((d : Data) → ¬ In (key, d) ks))

-- what is reported where the first key isn't the data folder's: that one, where the first may be a folder's, else the
-- first
abbrev pub IsRootKey : Text → Text → Type 0
IsRootKey first key = ((key ≡ codes "pg_data") × (p : Text) × (first ≡ data_path p))
    ⊎ ((key ≡ first) × ((p : Text) → first ≢ data_path p))

-- the key has something there that no folder below the data folder has
abbrev pub IsNoDirectory : List Field → Text → Type 0
IsNoDirectory ks key = (d : Data) × In (key, d) ks
    × ((p : Text) → IsDirectory p → (let k : Field = (key, d) in k) ≢ folder_field p)

-- a folder on the path isn't listed
abbrev pub Lacks : List Text → Text → Type 0
Lacks folders path = (prefix : Text) × (last : Text) × (path ≡ prefix ⫽ last) × (¬ In prefix folders)

-- the rules between files and folders: each folder on a path is listed, and no file is a folder
abbrev pub IsPlaced : List Text → FileEntry → Type 0
IsPlaced folders e = HasItsFolders folders e.path × (¬ In e.path folders)

-- each of the files keeps these rules, and each folder on a folder's path is listed
abbrev pub FilesArePlaced : List FileEntry → List Text → Type 0
FilesArePlaced files folders = (e : FileEntry) → In e files → IsPlaced folders e

abbrev pub FoldersAreListed : List Text → Type 0
FoldersAreListed folders = (p : Text) → In p folders → HasItsFolders folders p

-- a file lacks a folder, which is reported at the file; or it is a folder too, which is reported at the folder
abbrev pub IsUnplacedFile : List FileEntry → List Text → Text → Text → Type 0
IsUnplacedFile files folders section key = (e : FileEntry) × In e files × (key ≡ data_path e.path)
    × (((section ≡ target_file) × Lacks folders e.path) ⊎ ((section ≡ target_path) × In e.path folders))

-- a folder lacks a folder
abbrev pub IsUnplacedFolder : List Text → Text → Text → Type 0
IsUnplacedFolder folders section key = (p : Text) × In p folders × (key ≡ data_path p) × (section ≡ target_path)
    × Lacks folders p

-- With this file the sizes pass their bound, and without it they don't.
pub record IsPast (files : List FileEntry) (e : FileEntry) : Type 0 where
  pub prefix : List FileEntry
  pub more : List FileEntry
  pub is : files ≡ prefix ++ e ∷ more
  pub within : sum_by (λ (f : FileEntry). f.size) prefix ≤ 2 ^ 63
  pub past : 2 ^ 63 < sum_by (λ (f : FileEntry). f.size) prefix + e.size
