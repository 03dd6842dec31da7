-- What a keeper over a data folder holds, and what its calls change. Own.
use Rattle.std.specs.Prelude.{ℕ, ◌≡◌, ◌≢◌, ◌⊎◌, ◌<◌, ◌≤◌, List, map, Option, Some, IfSome, Contains}
use Rattle.base_devices.specs.Content.{at}
use Rattle.base_devices.specs.Cause.{Rises}
use Rattle.base_devices.specs.States.{DataFolderState}
use Rattle.base_devices.specs.DataFolder.{Nodes, folder}
use Rattle.base_model.specs.Text.{Text, In, ◌⫽◌}
use Rattle.worker_protocol.specs.Views.{job_of}
use Rattle.worker_protocol.specs.PartSinkState.{PartSinkState}
use Rattle.restore_steps.specs.Files.{temporary_path, kept_of, wanted_of}
use Rattle.restore_steps.specs.declared.contents.files.Wanted.{Wanted}
use Rattle.restore_steps.specs.declared.contents.keeper.FileKeeper.{FileKeeper}

-- what a keeper that fills a data folder represents
abbrev pub state_of : FileKeeper → Option Nodes → PartSinkState
state_of k nodes = record { faults = k.faults; jobs = map job_of k.jobs.now; kept = map (kept_of nodes) k.files.items }

-- the path is none of these files', nor the temporary name of one
abbrev pub IsNoneOf : List Wanted → Text → Type 0
IsNoneOf ws q = (w : Wanted) → In w ws → (q ≢ w.path.now) × (q ≢ temporary_path w.path.now)

-- a folder is at the path, where that is known
abbrev pub IsFolderAt : Text → Option Nodes → Type 0
IsFolderAt path nodes = IfSome (at path nodes) (λ node. node ≡ Some folder)

-- each of these files has its folder, which is none of them, nor the temporary name of one
abbrev pub HaveFolders : List Wanted → Option Nodes → Type 0
HaveFolders ws nodes = (w : Wanted) → In w ws → (prefix last : Text) → w.path.now ≡ prefix ⫽ last → ¬ Contains last 47
    → IsNoneOf ws prefix × IsFolderAt prefix nodes

-- within these two counts of the tree's faults, one rose
pub record RoseWithin (f g : ℕ) : Type 0 where
  pub before : ℕ
  pub after : ℕ
  pub from : f ≤ before
  pub rose : Rises before after
  pub to : after ≤ g

-- it is for the same files, and only these have changed; it failed only where the data folder did
pub record Later (a b : FileKeeper) (u v : DataFolderState) : Type 0 where
  pub jobs : b.jobs ≡ a.jobs
  pub wanted : map wanted_of b.files.items ≡ map wanted_of a.files.items
  pub others : (q : Text) → IsNoneOf (map wanted_of a.files.items) q → at q v.nodes ≡ at q u.nodes
  pub opened : v.opened ≡ u.opened
  pub proper : HaveFolders (map wanted_of a.files.items) u.nodes → v.faulty_calls ≡ u.faulty_calls
  pub later : u.faults ≤ v.faults
  pub failed : 0 < b.faults → (0 < a.faults) ⊎ RoseWithin u.faults v.faults
