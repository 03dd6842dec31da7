-- The choices and the jobs of a listing. Own.
use Rattle.std.specs.Prelude.{◌≤◌, ◌+◌, ◌-◌, ◌&&◌, ℕ, Bool, true, false, nat_lt, List, [], ◌∷◌, ◌++◌, length}
use Rattle.worker_protocol.specs.declared.frames.frames.Root.TheVariants.{DataFolder}
use Rattle.worker_protocol.specs.declared.frames.frames.JobKind.TheVariants.{Read}
use Rattle.worker_protocol.specs.Frames.{Item, Job}
use Rattle.base_model.specs.Values.{FileEntry}
use Rattle.backup_plan.specs.declared.values.PlanSettings.{PlanSettings}
use Rattle.backup_plan.specs.declared.values.Choice.{Choice}
use Rattle.backup_plan.specs.declared.values.Choice.TheVariants.{Skip, Empty, Alone, Bundle, Last}
use Rattle.backup_plan.specs.declared.values.What.{What}
use Rattle.backup_plan.specs.declared.values.What.TheVariants.{Leave, Nothing, Single, Small, Control}
use Rattle.backup_plan.specs.Listed.{Taken, entry_at, what}

-- the whole file, as it was listed
abbrev pub item_for : Taken → Item
item_for f = record { root = DataFolder; path = f.path; at = 0; size = f.size }

abbrev pub read_job : List Item → Job
read_job items = record { kind = Read; items = items }

-- How far a walk over the files has come. It has each one's choice, the jobs of the single files, those of the full
-- bundles, the files of the bundle that is filled with their listed bytes, and the jobs that come last.
pub record Layout : Type 0 where
  pub choices : List Choice
  pub singles : List Job
  pub full : List Job
  pub current : List Item
  pub bytes : ℕ
  pub last : List Job

abbrev pub begin : Layout
begin = record { choices = []; singles = []; full = []; current = []; bytes = 0; last = [] }

-- a bundle has at most this many files (own)
abbrev pub bundle_files : ℕ
bundle_files = 50000

abbrev pub bundle_job : List Item → List Job
bundle_job [] = []
bundle_job (i ∷ is) = read_job (i ∷ is) ∷ []

-- the jobs of all bundles so far
abbrev pub bundles : Layout → List Job
bundles l = l.full ++ bundle_job l.current

-- the bundle that is filled takes a file of this many bytes
abbrev pub takes : PlanSettings → Layout → ℕ → Bool
takes s l size = nat_lt 0 (length l.current) && nat_lt (length l.current) bundle_files
    && nat_lt (l.bytes + size) (s.bundle_size + 1)

-- the file in a bundle: in the one that is filled, or in a new one
abbrev pub bundled_by : Bool → Layout → Taken → Layout
bundled_by true l f = record l { current = l.current ++ item_for f ∷ []; bytes = l.bytes + f.size }
bundled_by false l f = record l { full = bundles l; current = item_for f ∷ []; bytes = f.size }

abbrev pub bundled : PlanSettings → Layout → Taken → Layout
bundled s l f = bundled_by (takes s l f.size) l f

abbrev pub with_choice : Choice → Layout → Layout
with_choice c l = record l { choices = l.choices ++ c ∷ [] }

-- a file is the last in the bundle that is filled
abbrev pub in_bundle : Layout → Layout
in_bundle l = with_choice (Bundle (length l.full + 1) (length l.current - 1)) l

-- one file more
abbrev pub laid : PlanSettings → Layout → Taken → What → Layout
laid s l f Leave = with_choice Skip l
laid s l f Nothing = with_choice Empty l
laid s l f Single = with_choice (Alone (length l.singles))
    (record l { singles = l.singles ++ read_job (item_for f ∷ []) ∷ [] })
laid s l f Small = in_bundle (bundled s l f)
laid s l f Control = with_choice Last (record l { last = l.last ++ read_job (item_for f ∷ []) ∷ [] })

abbrev pub laid_all : PlanSettings → List FileEntry → Layout → List Taken → List Bool → Layout
laid_all s old l [] es = l
laid_all s old l (f ∷ fs) [] = l
laid_all s old l (f ∷ fs) (e ∷ es) = laid_all s old (laid s l f (what s (entry_at f.path old) f e)) fs es

-- the layout of a listing, besides the files of the prior backup
abbrev pub layout : PlanSettings → List FileEntry → List Taken → List Bool → Layout
layout s old fs es = laid_all s old begin fs es

-- all jobs: the single files in their order, the bundles by number, the control file
abbrev pub jobs_of : Layout → List Job
jobs_of l = l.singles ++ bundles l ++ l.last

-- no list is longer than that of the choices
pub record IsWithin (l : Layout) : Type 0 where
  pub singles : length l.singles ≤ length l.choices
  pub bundles : length (bundles l) ≤ length l.choices
  pub current : length l.current ≤ length l.choices
