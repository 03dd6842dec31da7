-- What a run of read jobs leaves of the files that are to be written. Own.
use Rattle.std.specs.Prelude.{ℕ, true, ◌≡◌, ◌<◌, List, [], ◌∷◌, length, map, Option, Some, None, IfSome, slice_get}
use Rattle.sha1.specs.Sha1.{sha1}
use Rattle.base_devices.specs.Links.{LinkState}
use Rattle.base_devices.specs.DataFolder.{Nodes}
use Rattle.base_model.specs.Text.{Text}
use Rattle.worker_protocol.specs.declared.frames.frames.Root.TheVariants.{Repo}
use Rattle.worker_protocol.specs.declared.frames.frames.JobKind.TheVariants.{Read}
use Rattle.worker_protocol.specs.Frames.{Item, Job}
use Rattle.worker_pool.specs.Reads.{ReadBy}
use Rattle.worker_pool.specs.Digests.{IsWhole}
use Rattle.restore_steps.specs.Clearing.{HasTimed}
use Rattle.restore_steps.specs.declared.contents.files.Wanted.{Wanted}
use Rattle.restore_steps.specs.declared.contents.files.Filed.{Filed}
use Rattle.restore_steps.specs.Files.{temporary_path, is_wanted}

-- the job reads this item alone, which is one of the repository and has the size that is requested
pub record IsJobOf (w : Wanted) (j : Job) : Type 0 where
  pub item : Item
  pub items : j.items ≡ item ∷ []
  pub kind : j.kind ≡ Read
  pub root : item.root ≡ Repo
  pub size : item.size ≡ w.size
  pub some : 0 < w.size

-- there is a job for each file
pub record AreJobsOf (ws : List Wanted) (jobs : List Job) : Type 0 where
  pub count : length ws ≡ length jobs
  pub each : (i : ℕ) (w : Wanted) (j : Job) → slice_get ws i ≡ Some w → slice_get jobs i ≡ Some j → IsJobOf w j

-- one of these links read these bytes of the item
pub record IsReadOf (links : List LinkState) (item : Item) (bytes : Text) : Type 0 where
  pub link : ℕ
  pub from : LinkState
  pub is : slice_get links link ≡ Some from
  pub read : ReadBy from.known item bytes

-- ---- how the files ended

-- The file's item ended with the number and the digest of bytes that a link read. Where they are those that are
-- requested, the file has these bytes and the time that is requested, and nothing is left under its temporary name.
pub record IsWritten (links : List LinkState) (nodes : Option Nodes) (job : Job) (f : Filed) : Type 0 where
  pub item : Item
  pub items : job.items ≡ item ∷ []
  pub n : ℕ
  pub sum : Text
  pub bytes : Text
  pub ended : IsWhole f.end n sum
  pub number : n ≡ length bytes
  pub digest : sum ≡ sha1 bytes
  pub read : IsReadOf links item bytes
  pub put : n ≡ f.wanted.size → sum ≡ f.wanted.sum.0
      → IfSome nodes
      (λ g. HasTimed f.wanted.path.now bytes f.wanted.time g × (g (temporary_path f.wanted.path.now) ≡ None))

-- each of them did
pub record AllWritten (links : List LinkState) (nodes : Option Nodes) (jobs : List Job) (ws : List Wanted)
    (fs : List Filed) : Type 0 where
  pub wanted : map (λ f. f.wanted) fs ≡ ws
  pub each : (i : ℕ) (j : Job) (f : Filed) → slice_get jobs i ≡ Some j → slice_get fs i ≡ Some f
      → IsWritten links nodes j f

-- each of them as requested
abbrev pub AllRight : List Filed → Type 0
AllRight fs = (i : ℕ) (f : Filed) → slice_get fs i ≡ Some f → is_wanted f.wanted f.end ≡ true

-- ---- the files that are there

-- The tree has a file of the number, the digest and the time that are requested, with bytes that a link read, and
-- nothing under its temporary name.
pub record IsFetched (links : List LinkState) (j : Job) (w : Wanted) (f : Nodes) : Type 0 where
  pub bytes : Text
  pub file : HasTimed w.path.now bytes w.time f
  pub size : length bytes ≡ w.size
  pub sum : sha1 bytes ≡ w.sum.0
  pub item : Item
  pub items : j.items ≡ item ∷ []
  pub read : IsReadOf links item bytes
  pub alone : f (temporary_path w.path.now) ≡ None

-- each of these files, by its job
abbrev pub AllFetched : List LinkState → Option Nodes → List Job → List Wanted → Type 0
AllFetched links nodes jobs ws = (i : ℕ) (j : Job) (w : Wanted) → slice_get jobs i ≡ Some j → slice_get ws i ≡ Some w
    → IfSome nodes (IsFetched links j w)
