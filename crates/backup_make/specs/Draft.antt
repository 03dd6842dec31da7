-- A backup that is to be made, and its manifest. Own.
use Rattle.std.specs.Prelude.{◌≡◌, ◌≤◌, ℕ, true, Bool, List, length, map, string_bytes, Option, Some, None, unwrap_or}
use Rattle.base_devices.specs.Order.{are_in_order}
use Rattle.base_devices.specs.Content.{Name}
use Rattle.worker_protocol.specs.Frames.{Job}
use Rattle.worker_protocol.specs.Views.{job_of}
use Rattle.base_model.specs.Text.{Text, In}
use Rattle.base_devices.specs.States.{last_second}
use Rattle.base_model.specs.Names.{label_folder, file_name, manifest_name, backup_info}
use Rattle.base_model.specs.InfoFiles.{IsBackupInfo}
use Rattle.base_model.specs.ManifestText.{IsFileEntry}
use Rattle.base_model.specs.Values.{BackupInfo, FileEntry, Manifest, backup_info_of, file_entry_of}
use Rattle.backup_sink.specs.declared.keeper.EndedItem.{EndedItem}
use Rattle.backup_sink.specs.Keeping.{is_own}
use Rattle.backup_plan.specs.declared.values.PlanSettings.{PlanSettings}
use Rattle.backup_plan.specs.Listed.{Taken, control_path}
use Rattle.backup_plan.specs.Layout.{layout, jobs_of}
use Rattle.backup_plan.specs.Filter.{IsListing, HasFile, most_files}
use Rattle.backup_plan.specs.Views.{taken_of}
use Rattle.backup_record.specs.declared.manifest_record.Head.{Head}
use Rattle.backup_record.specs.Bounds.{MayFollow}
use Rattle.backup_record.specs.Entries.{BackupRun, entries}
use Rattle.backup_record.specs.Further.{Further, entry_in, with_further}
use Rattle.backup_record.specs.Making.{manifest_with}
use Rattle.backup_make.specs.declared.draft.Draft.{Draft}
use Rattle.backup_make.specs.Online.{Online, part_in, label_path, label_entry}

-- what a drafted backup represents
abbrev pub stanza_of : Draft → Text
stanza_of d = d.stanza.now

abbrev pub taken_in : Draft → List Taken
taken_in d = map taken_of d.listing.files.items

abbrev pub folders_in : Draft → List Text
folders_in d = map string_bytes d.listing.folders.items

abbrev pub old_in : Draft → List FileEntry
old_in d = map file_entry_of d.old.now

abbrev pub jobs_in : Draft → List Job
jobs_in d = map job_of d.plan.jobs.items

-- the stanza's listfrom before
abbrev pub list_in : Draft → BackupInfo
list_in d = backup_info_of d.before

-- ---- names

-- the label's folder, its manifest's main member, and that of the stanza's list
abbrev pub folder_of : Draft → Name
folder_of d = label_folder (stanza_of d) d.label

abbrev pub pair_of : Draft → Name
pair_of d = manifest_name (stanza_of d) d.label

abbrev pub main_of : Draft → Name
main_of d = backup_info (stanza_of d)

-- the names at which its bytes are kept
abbrev pub is_own_of : Draft → Name → Bool
is_own_of d = is_own (folder_of d)

-- that of its label file
abbrev pub label_name : Draft → Name
label_name d = file_name (stanza_of d) d.label label_path

-- ---- the manifest

-- what it states besides its files and folders, where the backup has stopped by then
abbrev pub head_for : Draft → Option Online → ℕ → Head
head_for d o stop = record {
  label = d.label;
  prior = d.prior;
  start = d.start;
  stop = stop;
  cluster = d.cluster;
  wal = part_in o;
  choices = d.choices;
}

abbrev pub head_at : Draft → ℕ → Head
head_at d stop = head_for d None stop

-- how the jobs went that ended so
abbrev pub went_with : Draft → List (List EndedItem) → BackupRun
went_with d ends = record { prior = unwrap_or d.prior d.label; old = old_in d; singles = d.plan.singles; ends = ends }

abbrev pub files_with : Draft → List (List EndedItem) → List FileEntry
files_with d ends = entries (went_with d ends) (taken_in d) d.plan.choices.items

-- the label file, where a server ran
abbrev pub label_further : Draft → Online → ℕ → Further
label_further d o stop = record { entry = label_entry o.label_file stop; bytes = o.label_file; name = label_name d }

abbrev pub further_in : Draft → Option Online → ℕ → Option Further
further_in d None stop = None
further_in d (Some o) stop = Some (label_further d o stop)

abbrev pub manifest_for : Draft → Option Online → List (List EndedItem) → ℕ → Manifest
manifest_for d o ends stop = manifest_with (head_for d o stop)
    (with_further (entry_in (further_in d o stop)) (files_with d ends)) (folders_in d)

-- of a stopped server
abbrev pub manifest_at : Draft → List (List EndedItem) → ℕ → Manifest
manifest_at d ends stop = manifest_for d None ends stop

-- ---- what a draft keeps

-- The plan is that of these files, besides those of the prior backup.
pub record IsPlanOf (d : Draft) : Type 0 where
  pub settings : PlanSettings
  pub equal : List Bool
  pub same : length equal ≡ length (taken_in d)
  pub choices : d.plan.choices.items ≡ (layout settings (old_in d) (taken_in d) equal).choices
  pub singles : d.plan.singles ≡ length (layout settings (old_in d) (taken_in d) equal).singles
  pub jobs : jobs_in d ≡ jobs_of (layout settings (old_in d) (taken_in d) equal)

-- The files are within the limits, and are planned; its label, times and cluster fit the list; the prior backup's files
-- are a manifest's.
pub record IsDraft (d : Draft) : Type 0 where
  pub listing : IsListing (taken_in d) (folders_in d)
  pub control : HasFile control_path (taken_in d)
  pub few : length (taken_in d) ≤ most_files
  pub plan : IsPlanOf d
  pub list : IsBackupInfo (list_in d)
  pub follows : (stop : ℕ) → stop ≤ last_second → MayFollow (head_at d stop) (list_in d)
  pub old_order : are_in_order (map (λ (e : FileEntry). e.path) (old_in d)) ≡ true
  pub old_folders : List Text
  pub old : (e : FileEntry) → In e (old_in d) → IsFileEntry old_folders e

-- Neither a file nor a folder is where the label file is to be.
pub record IsFree (d : Draft) : Type 0 where
  pub file : ¬ HasFile label_path (taken_in d)
  pub folder : ¬ In label_path (folders_in d)
