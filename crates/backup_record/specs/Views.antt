-- From the program's values to those of the definitions.
use Rattle.std.specs.Prelude.{◌≡◌, ℕ, List, map, Option, option_map, Vec}
use Rattle.std.specs.declared.alloc.Global.{Global}
use Rattle.base_model.specs.declared.files.FileEntry as rust_entry
use Rattle.base_model.specs.declared.labels.Label.{Label}
use Rattle.base_model.specs.Values.{FileEntry, file_entry_of}
use Rattle.backup_sink.specs.declared.keeper.EndedItem.{EndedItem}
use Rattle.backup_plan.specs.declared.values.Choice.{Choice}
use Rattle.backup_plan.specs.declared.values.Taken as rust_taken
use Rattle.backup_plan.specs.Views.{taken_of}
use Rattle.backup_record.specs.declared.ran.Ran.{Ran}
use Rattle.backup_record.specs.Entries.{BackupRun, entry_for, entries}
use Rattle.backup_record.specs.Further.{put_in, with_further}

-- what a run of the jobs in the code represents
abbrev pub went_of : Ran → BackupRun
went_of r = record {
  prior = r.prior;
  old = map file_entry_of r.old.now;
  singles = r.singles;
  ends = map (λ v. v.items) r.ends.now;
}

-- a run of jobs that ended so
abbrev pub run_with : Label → List rust_entry.FileEntry → ℕ → List (Vec EndedItem Global) → BackupRun
run_with prior old singles ends = record {
  prior = prior;
  old = map file_entry_of old;
  singles = singles;
  ends = map (λ (v : Vec EndedItem Global). v.items) ends;
}

-- the manifest's entry of a file after a run, where it has one
abbrev pub IsEntryFor : Ran → rust_taken.Taken → Choice → Option rust_entry.FileEntry → Type 0
IsEntryFor ran file choice entry = option_map file_entry_of entry ≡ entry_for (went_of ran) (taken_of file) choice

-- those of these files
abbrev pub entries_in : Ran → List rust_taken.Taken → List Choice → List FileEntry
entries_in ran files choices = entries (went_of ran) (map taken_of files) choices

-- the file more, in byte order of the paths
abbrev pub PutsIn : rust_entry.FileEntry → List rust_entry.FileEntry → List rust_entry.FileEntry → Type 0
PutsIn file old new =
    map file_entry_of new ≡ put_in (λ (e : FileEntry). e.path) (file_entry_of file) (map file_entry_of old)

-- the same where there is one, and else no other
abbrev pub AddsFurther : Option rust_entry.FileEntry → List rust_entry.FileEntry → List rust_entry.FileEntry → Type 0
AddsFurther further old new =
    map file_entry_of new ≡ with_further (option_map file_entry_of further) (map file_entry_of old)
