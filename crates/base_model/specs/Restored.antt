-- What a data folder holds of a backup (pgBackRest user guide, "Restore").
use Rattle.std.specs.Prelude.{ℕ, ◌≡◌, List, Option, Some, None, option_map}
use Rattle.std.specs.FinMap.{get}
use Rattle.base_devices.specs.Content.{Content}
use Rattle.base_devices.specs.DataFolder.{Nodes, file, folder}
use Rattle.base_model.specs.Text.{Text, In}
use Rattle.base_model.specs.Repository.{File, Backup}

-- the tree has these files, at any times, these folders, and nothing else
pub record HoldsTree (c : Content) (folders : List Text) (f : Nodes) : Type 0 where
  pub file : (path bytes : Text) → c path ≡ Some bytes → (time : ℕ) × (f path ≡ Some (file bytes time))
  pub folder : (path : Text) → In path folders → f path ≡ Some folder
  pub nothing : (path : Text) → c path ≡ None → ¬ In path folders → f path ≡ None

-- each path that has a time here is a file of that time
abbrev pub HasTimes : (Text → Option ℕ) → Nodes → Type 0
HasTimes times f = (path : Text) (time : ℕ) → times path ≡ Some time
    → (bytes : Text) × (f path ≡ Some (file bytes time))

-- the bytes of a backup's files
abbrev pub contents : Backup → Content
contents b path = option_map (λ (x : File). x.bytes) (get b.files path)

-- the times of a backup's files
abbrev pub listed_times : Backup → Text → Option ℕ
listed_times b path = option_map (λ (x : File). x.time) (get b.files path)
