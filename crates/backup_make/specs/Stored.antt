-- What is stored of a backup's jobs. Own.
use Rattle.std.specs.Prelude.{◌≡◌, ◌<◌, ℕ, true, List, Option, Some, IsSome, slice_get}
use Rattle.base_devices.specs.Content.{Name, Content, HasBytes, Holds}
use Rattle.base_devices.specs.Crash.{IsTemporary}
use Rattle.base_devices.specs.Links.{LinkState}
use Rattle.worker_protocol.specs.PartSinkState.{Done, JobItems}
use Rattle.backup_sink.specs.declared.keeper.EndedItem.{EndedItem}
use Rattle.backup_sink.specs.Placed.{IsPlaced}
use Rattle.worker_pool.specs.Payloads.{AllByFile}
use Rattle.worker_pool.specs.Run.{AllDone}
use Rattle.backup_plan.specs.Layout.{Layout}
use Rattle.backup_record.specs.Ends.{AreAllEnds, AreReceived, JobsCome}
use Rattle.backup_record.specs.Naming.{IsPlanned, names_in}
use Rattle.backup_make.specs.declared.draft.Draft.{Draft}
use Rattle.backup_make.specs.Draft.{jobs_in, folder_of, is_own_of}

-- g has what the disk has at each own name that has bytes
abbrev pub HasOwn : Draft → Option Content → Content → Type 0
HasOwn d now g = (n : Name) → is_own_of d n ≡ true → ¬ IsTemporary n → HasBytes now n → Holds now n (g n)

-- these are the names of the draft's jobs
abbrev pub AreNames : Draft → List Name → Type 0
AreNames d names = (l : Layout) → IsPlanned d.plan l → names ≡ names_in (folder_of d) l

-- Links of these did the jobs, of which each item ended so. The result of it is kept, and lies at its place in each
-- content that has what the disk has.
pub record Stored (d : Draft) (links : List LinkState) (ends : List (List EndedItem)) (now : Option Content) : Type 0
  where
    pub names : List Name
    pub names_are : AreNames d names
    pub own : (j : ℕ) (n : Name) → slice_get names j ≡ Some n → (is_own_of d n ≡ true) × ¬ IsTemporary n
    pub kept : List JobItems
    pub received : AllDone (jobs_in d) links kept
    pub payload : AllByFile (jobs_in d) links kept
    pub are : AreAllEnds ends kept
    pub come : JobsCome (jobs_in d) ends
    pub got : IsSome now → AreReceived kept
    pub placed : IsSome now → (g : Content) → HasOwn d now g → IsPlaced names kept g
    pub filled : IsSome now → (j i : ℕ) (n : Name) (k : JobItems) (x : Done) → slice_get names j ≡ Some n
        → slice_get kept j ≡ Some k → slice_get k.done i ≡ Some x → 0 < x.held.count → HasBytes now n
