-- The names at which the bytes of a backup's jobs are kept.
use Rattle.std.specs.Prelude.{◌≡◌, ◌+◌, ℕ, List, [], ◌∷◌, ◌++◌, length, map, codes, decimal, Some, slice_get, String, string_bytes, Vec}
use Rattle.std.specs.declared.alloc.Global.{Global}
use Rattle.base_devices.specs.Content.{Name}
use Rattle.worker_protocol.specs.declared.frames.frames.Job as rust_job
use Rattle.worker_protocol.specs.Frames.{Item, Job}
use Rattle.base_model.specs.declared.labels.Label.{Label}
use Rattle.worker_protocol.specs.Views.{job_of}
use Rattle.base_model.specs.Text.{Text, In, ◌⫽◌}
use Rattle.base_model.specs.Names.{label_folder, file_name, bundle_name}
use Rattle.backup_plan.specs.declared.values.BackupPlan.{BackupPlan}
use Rattle.backup_plan.specs.Layout.{Layout, read_job, bundles, jobs_of}
use Rattle.backup_record.specs.Entries.{BackupRun, last_job_number}

-- that of a job of one file, in the folder of a label
abbrev pub single_in : Text → Job → Name
single_in folder job = by job.items
  where
    by : List Item → Name
    by [] = []
    by (i ∷ is) = folder ⫽ codes "pg_data" ⫽ i.path

-- those of the bundles from this number on
abbrev pub bundles_in : Text → ℕ → List Job → List Name
bundles_in folder n [] = []
bundles_in folder n (j ∷ js) = (folder ⫽ codes "bundle" ⫽ decimal n) ∷ bundles_in folder (n + 1) js

abbrev pub names_in : Text → Layout → List Name
names_in folder l = map (single_in folder) l.singles
    ++ (bundles_in folder 1 (bundles l) ++ map (single_in folder) l.last)

abbrev pub single_name : Text → Label → Job → Name
single_name stanza label = single_in (label_folder stanza label)

abbrev pub bundle_names : Text → Label → ℕ → List Job → List Name
bundle_names stanza label = bundles_in (label_folder stanza label)

abbrev pub names_for : Text → Label → Layout → List Name
names_for stanza label l = names_in (label_folder stanza label) l

-- the plan has the jobs of this layout, with one for the control file
pub record IsPlanned (p : BackupPlan) (l : Layout) : Type 0 where
  pub singles : p.singles ≡ length l.singles
  pub jobs : map job_of p.jobs.items ≡ jobs_of l
  pub last : length l.last ≡ 1

-- these names are those of the plan's jobs
abbrev pub AreNamesFor : Text → BackupPlan → List Name → Type 0
AreNamesFor folder p names = (l : Layout) → IsPlanned p l → names ≡ names_in folder l

-- this many further names
abbrev pub AddsNames : List Name → Vec (String Global) Global → Vec (String Global) Global → Type 0
AddsNames more old new = map string_bytes new.items ≡ map string_bytes old.items ++ more

-- the names of jobs of one file, of bundles, and of last ones
abbrev pub AreNamesOf : Text → List rust_job.Job → List rust_job.Job → List rust_job.Job → List (String Global)
    → Type 0
AreNamesOf folder singles full last names = map string_bytes names ≡ map (single_in folder) (map job_of singles)
    ++ (bundles_in folder 1 (map job_of full) ++ map (single_in folder) (map job_of last))

-- each job's name is that of its file, or of its bundle
pub record IsNaming (stanza : Text) (label : Label) (names : List Name) (w : BackupRun) (l : Layout) : Type 0 where
  pub single : (j : ℕ) (x : Item) → slice_get l.singles j ≡ Some (read_job (x ∷ []))
      → slice_get names j ≡ Some (file_name stanza label x.path)
  pub bundle : (j : ℕ) (job : Job) → slice_get (bundles l) j ≡ Some job
      → slice_get names (w.singles + j) ≡ Some (bundle_name stanza label (j + 1))
  pub last : (x : Item) → In (read_job (x ∷ [])) l.last
      → slice_get names (last_job_number w) ≡ Some (file_name stanza label x.path)
