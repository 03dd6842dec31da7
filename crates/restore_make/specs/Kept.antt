-- Which files of the data folder are kept. Own.
use Rattle.std.specs.Prelude.{ℕ, Bool, true, false, ◌≡◌, List, [], ◌∷◌, length, Option, Some, IfSome, slice_get, unwrap_or}
use Rattle.base_devices.specs.Content.{Content, at}
use Rattle.base_devices.specs.Links.{LinkState}
use Rattle.base_devices.specs.DataFolder.{Nodes, file, file_bytes, with_time}
use Rattle.base_devices.specs.declared.data_folder.Node.{Node}
use Rattle.base_devices.specs.declared.data_folder.Node.TheVariants.{File}
use Rattle.base_model.specs.Text.{Text, In}
use Rattle.base_model.specs.Values.{FileEntry}
use Rattle.restore_steps.specs.Clearing.{HasTimed}
use Rattle.worker_protocol.specs.declared.frames.frames.Root.TheVariants.{DataFolder}
use Rattle.worker_protocol.specs.Frames.{Item, Job}
use Rattle.worker_pool.specs.Payloads.{AllRead}
use Rattle.worker_pool.specs.Digests.{digest_of, IsDigestedBy}
use Rattle.restore_make.specs.Entries.{AreOf}
use Rattle.restore_make.specs.Options.{Options, is_ordinary}

-- the entry's file in the data folder
abbrev pub in_folder : FileEntry → Item
in_folder e = record { root = DataFolder; path = e.path; at = 0; size = e.size }

-- the job that digests it
abbrev pub digesting : FileEntry → Job
digesting e = digest_of (in_folder e)

-- ---- which files are to be kept

-- the mark of a place; there may be fewer marks than places
abbrev pub mark_at : List Bool → ℕ → Bool
mark_at marks i = unwrap_or (slice_get marks i) false

-- each entry with its mark
abbrev pub marked : List FileEntry → List Bool → List (FileEntry × Bool)
marked [] marks = []
marked (e ∷ es) [] = (e, false) ∷ marked es []
marked (e ∷ es) (mark ∷ marks) = (e, mark) ∷ marked es marks

-- the listing shows a file of the entry's path and size
abbrev pub IsShown : List (Text × Node) → FileEntry → Type 0
IsShown seen e = (time : ℕ) × In (e.path, File e.size time) seen

-- An entry whose file may be kept: delta is asked for, the listing shows such a file, and a link reported the entry's
-- digest of it.
pub record IsAlike (links : List LinkState) (o : Options) (seen : List (Text × Node)) (e : FileEntry) : Type 0 where
  pub delta : o.delta ≡ true
  pub ordinary : is_ordinary o.recovery e ≡ true
  pub shown : IsShown seen e
  pub digested : IsDigestedBy links (in_folder e) e.size e.sum

-- each entry with a mark is one
abbrev pub AllAlike : List LinkState → Options → List (Text × Node) → List FileEntry → List Bool → Type 0
AllAlike links o seen es marks = (e : FileEntry) → In (e, true) (marked es marks) → IsAlike links o seen e

-- where all links read the same files, each entry whose file in the data folder they read so is marked
abbrev pub MarksAlike : List LinkState → Options → List (Text × Node) → List FileEntry → List Bool → Type 0
MarksAlike links o seen es marks =
    (tree repo : Content) → AllRead tree repo links → o.delta ≡ true → (e : FileEntry) → In e es
    → is_ordinary o.recovery e ≡ true → IsShown seen e
    → (bytes : Text) → tree e.path ≡ Some bytes → AreOf e bytes → In (e, true) (marked es marks)

-- ---- which files were kept

-- The entry's file was kept, as delta allows: it has the bytes that it had, and the entry's time. It has the entry's
-- size, and a link reported the entry's digest of it.
pub record IsKept (links : List LinkState) (o : Options) (e : FileEntry) (old : Option Nodes) (f : Nodes) : Type 0 where
  pub delta : o.delta ≡ true
  pub ordinary : is_ordinary o.recovery e ≡ true
  pub bytes : Text
  pub was : (time : ℕ) × (at e.path old ≡ Some (Some (file bytes time)))
  pub is : HasTimed e.path bytes e.time f
  pub size : length bytes ≡ e.size
  pub digested : IsDigestedBy links (in_folder e) e.size e.sum

-- these are the files that the data folder held
abbrev pub AreFilesOf : Option Nodes → Content → Type 0
AreFilesOf old tree = IfSome old (λ g. (path : Text) → tree path ≡ file_bytes (g path))

-- Where each link reads the files that were there, delta keeps each ordinary one that was as its entry states: the same
-- node is there, except that it has the entry's time.
abbrev pub KeepsAlike : List LinkState → Options → List FileEntry → Option Nodes → Nodes → Type 0
KeepsAlike links o es old f =
    (tree repo : Content) → AllRead tree repo links → AreFilesOf old tree → o.delta ≡ true → (e : FileEntry) → In e es
    → is_ordinary o.recovery e ≡ true
    → IfSome old (λ g. (bytes : Text) → file_bytes (g e.path) ≡ Some bytes → AreOf e bytes
    → f e.path ≡ with_time e.time (g e.path))
