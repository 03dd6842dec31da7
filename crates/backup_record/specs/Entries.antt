-- The files of the manifest of a backup, and their bytes. Own.
use Rattle.std.specs.Prelude.{◌==◌, ◌+◌, ◌-◌, ℕ, List, [], ◌∷◌, length, Option, Some, None, option_map, option_and_then, unwrap_or, if◌then◌else◌, slice_get}
use Rattle.std.specs.FinMap.{get}
use Rattle.sha1.specs.Sha1.{sha1}
use Rattle.base_model.specs.declared.labels.Label.{Label}
use Rattle.base_model.specs.declared.files.Bundled.{Bundled}
use Rattle.base_model.specs.Text.{Text, Map}
use Rattle.base_model.specs.Values.{FileEntry}
use Rattle.base_model.specs.Repository.{File}
use Rattle.worker_protocol.specs.declared.sinks.ItemEnd.{ItemEnd}
use Rattle.worker_protocol.specs.declared.sinks.ItemEnd.TheVariants.{Whole, Vanished}
use Rattle.worker_protocol.specs.PartSinkState.{Done, JobItems}
use Rattle.backup_sink.specs.declared.keeper.EndedItem.{EndedItem}
use Rattle.backup_plan.specs.declared.values.Choice.{Choice}
use Rattle.backup_plan.specs.declared.values.Choice.TheVariants.{Skip, Empty, Alone, Bundle, Last}
use Rattle.backup_plan.specs.Listed.{Taken, entry_at}
use Rattle.backup_record.specs.Ends.{end_at, bytes_before}

-- A file that was read; one of which nothing was received has no place.
abbrev pub read_entry : Taken → Option Bundled → ItemEnd → Option FileEntry
read_entry f at Vanished = None
read_entry f at (Whole n sum) = Some
    (record {
      path = f.path;
      size = n;
      time = f.time;
      sum = sum.0;
      reference = None;
      bundle = if n == 0 then None else at;
    })

abbrev pub copied : Taken → Option Bundled → Option EndedItem → Option FileEntry
copied f at end = option_and_then (λ (e : EndedItem). read_entry f at e.how) end

-- a file that was left refers to the backup that has its bytes
abbrev pub left_entry : Label → Taken → FileEntry → FileEntry
left_entry prior f e = record e { time = f.time; reference = Some (unwrap_or e.reference prior) }

abbrev pub empty_entry : Taken → FileEntry
empty_entry f = record { path = f.path; size = 0; time = f.time; sum = sha1 []; reference = None; bundle = None }

-- how a backup goes: the label and the files of the prior one, how many jobs are of single files, and how each item
-- ended
pub record BackupRun : Type 0 where
  pub prior : Label
  pub old : List FileEntry
  pub singles : ℕ
  pub ends : List (List EndedItem)

-- the job of a bundle, and the last one
abbrev pub bundle_job_number : BackupRun → ℕ → ℕ
bundle_job_number w number = w.singles + (number - 1)

abbrev pub last_job_number : BackupRun → ℕ
last_job_number w = length w.ends - 1

-- the manifest's entry of a file; none where it has vanished
abbrev pub entry_for : BackupRun → Taken → Choice → Option FileEntry
entry_for w f Skip = option_map (left_entry w.prior f) (entry_at f.path w.old)
entry_for w f Empty = Some (empty_entry f)
entry_for w f (Alone job) = copied f None (end_at w.ends job 0)
entry_for w f (Bundle number item) =
    copied f (Some (record { number = number; at = bytes_before w.ends (bundle_job_number w number) item }))
    (end_at w.ends (bundle_job_number w number) item)
entry_for w f Last = copied f None (end_at w.ends (last_job_number w) 0)

abbrev pub with_some : {X : Type 0} → Option X → List X → List X
with_some None xs = xs
with_some (Some x) xs = x ∷ xs

-- the manifest's files, in the order of the listing
abbrev pub entries : BackupRun → List Taken → List Choice → List FileEntry
entries w [] cs = []
entries w (f ∷ fs) [] = []
entries w (f ∷ fs) (c ∷ cs) = with_some (entry_for w f c) (entries w fs cs)

-- ---- their bytes

-- the bytes that were received of an item
abbrev pub known_at : List JobItems → ℕ → ℕ → Text
known_at kept job item = unwrap_or (option_and_then
    (λ (k : JobItems). option_and_then (λ (d : Done). d.held.known) (slice_get k.done item)) (slice_get kept job)) []

-- the bytes of a file of the prior backup
abbrev pub prior_bytes : Map File → Text → Text
prior_bytes files path = unwrap_or (option_map (λ (f : File). f.bytes) (get files path)) []

abbrev pub bytes_for : BackupRun → Map File → List JobItems → Taken → Choice → Text
bytes_for w files kept f Skip = prior_bytes files f.path
bytes_for w files kept f Empty = []
bytes_for w files kept f (Alone job) = known_at kept job 0
bytes_for w files kept f (Bundle number item) = known_at kept (bundle_job_number w number) item
bytes_for w files kept f Last = known_at kept (last_job_number w) 0

-- each entry with its bytes
abbrev pub rows : BackupRun → Map File → List JobItems → List Taken → List Choice → List (FileEntry × Text)
rows w files kept [] cs = []
rows w files kept (f ∷ fs) [] = []
rows w files kept (f ∷ fs) (c ∷ cs) =
    with_some (option_map (λ (e : FileEntry). (e, bytes_for w files kept f c)) (entry_for w f c))
    (rows w files kept fs cs)

-- the files of the backup, by their paths
abbrev pub file_of : FileEntry × Text → Text × File
file_of r = (r.0.path, record { bytes = r.1; time = r.0.time })
