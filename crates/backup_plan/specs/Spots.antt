-- Where a file's item is among the jobs.
use Rattle.std.specs.Prelude.{◌≡◌, ◌<◌, ◌≤◌, ◌-◌, ℕ, List, [], ◌∷◌, Some, slice_get}
use Rattle.worker_protocol.specs.Frames.{Item}
use Rattle.base_model.specs.Text.{In}
use Rattle.base_model.specs.Values.{FileEntry}
use Rattle.backup_plan.specs.declared.values.Choice.{Choice}
use Rattle.backup_plan.specs.declared.values.Choice.TheVariants.{Skip, Empty, Alone, Bundle, Last}
use Rattle.backup_plan.specs.Listed.{Taken, entry_at}
use Rattle.backup_plan.specs.Layout.{Layout, item_for, read_job, bundles}

-- the item is that of this number in the bundle of this number, from 0
pub record IsInBundle (l : Layout) (bundle item : ℕ) (x : Item) : Type 0 where
  pub items : List Item
  pub is : slice_get (bundles l) bundle ≡ Some (read_job items)
  pub item_is : slice_get items item ≡ Some x

-- the prior backup has the file with the listed size
pub record WasLeft (old : List FileEntry) (f : Taken) : Type 0 where
  pub entry : FileEntry
  pub is : entry_at f.path old ≡ Some entry
  pub size : entry.size ≡ f.size
  pub some : 0 < f.size

-- the file's item is where its choice says
abbrev pub HasItem : List FileEntry → Layout → Taken → Choice → Type 0
HasItem old l f Skip = WasLeft old f
HasItem old l f Empty = Unit {0}
HasItem old l f (Alone job) = slice_get l.singles job ≡ Some (read_job (item_for f ∷ []))
HasItem old l f (Bundle number item) = (1 ≤ number) × IsInBundle l (number - 1) item (item_for f)
HasItem old l f Last = In (read_job (item_for f ∷ [])) l.last

-- the same for each file
abbrev pub HaveItems : List FileEntry → Layout → List Taken → List Choice → Type 0
HaveItems old l [] [] = Unit {0}
HaveItems old l [] (c ∷ cs) = ⊥
HaveItems old l (f ∷ fs) [] = ⊥
HaveItems old l (f ∷ fs) (c ∷ cs) = HasItem old l f c × HaveItems old l fs cs
