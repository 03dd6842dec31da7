-- Which file of the data folder's log an argument names (PostgreSQL manual, "Continuous Archiving and Point-in-Time
-- Recovery": `%p`).
use Rattle.std.specs.Prelude.{◌≡◌, ◌⊎◌, ◌++◌, ◌∷◌, ◌≢◌, codes, Some}
use Rattle.std.specs.List.{AllByRecursion}
use Rattle.base_devices.specs.DataFolder.{Nodes, file_bytes}
use Rattle.base_model.specs.declared.wal.ArchiveName.{ArchiveName}
use Rattle.base_model.specs.Text.{Text}
use Rattle.base_model.specs.Names.{wal_text}
use Rattle.base_model.specs.Represents.{IsWalName}

-- what follows the last slash of a path, or the path where it has none
abbrev pub IsLastElement : Text → Text → Type 0
IsLastElement path last = AllByRecursion (λ c. c ≢ 47) last
    × ((path ≡ last) ⊎ ((prefix : Text) × (path ≡ prefix ++ 47 ∷ last)))

-- the file's path below the data folder
abbrev pub wal_path : Text → Text
wal_path name = codes "pg_wal/" ++ name

-- the path is that file's, from the data folder or from the root
abbrev pub IsPathOf : Text → Text → Text → Type 0
IsPathOf folder path name = (path ≡ wal_path name) ⊎ (path ≡ folder ++ (codes "/pg_wal/" ++ name))

-- the path names this file
pub record IsWalPath (folder path : Text) (name : ArchiveName) : Type 0 where
  pub fits : IsWalName name
  pub last : IsLastElement path (wal_text name)
  pub lies : IsPathOf folder path (wal_text name)

-- and the data folder has it, with these bytes
pub record HasWal (f : Nodes) (folder path : Text) (name : ArchiveName) (bytes : Text) : Type 0 where
  pub named : IsWalPath folder path name
  pub is : file_bytes (f (wal_path (wal_text name))) ≡ Some bytes
