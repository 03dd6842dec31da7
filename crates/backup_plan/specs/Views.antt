-- From the program's values to those of the definitions.
use Rattle.std.specs.Prelude.{List, map, string_bytes}
use Rattle.worker_protocol.specs.Views.{job_of, items_of}
use Rattle.base_devices.specs.declared.data_folder.FolderEntry as rust_seen
use Rattle.base_devices.specs.declared.data_folder.Node.{Node}
use Rattle.base_model.specs.Text.{Text}
use Rattle.backup_plan.specs.declared.values.Listing as rust_listing
use Rattle.backup_plan.specs.declared.values.Taken as rust_taken
use Rattle.backup_plan.specs.declared.listing_walk.Walk as rust_walk
use Rattle.backup_plan.specs.Listed.{Taken}
use Rattle.backup_plan.specs.Layout.{Layout}

-- what the files and places of the code represent
abbrev pub taken_of : rust_taken.Taken → Taken
taken_of f = record { path = string_bytes f.path; size = f.size; time = f.time }

-- the files and the folders that were taken
abbrev pub taken_files : rust_listing.Listing → List Taken
taken_files l = map taken_of l.files.items

abbrev pub taken_folders : rust_listing.Listing → List Text
taken_folders l = map string_bytes l.folders.items

abbrev pub layout_of : rust_walk.Walk → Layout
layout_of w = record {
  choices = w.choices.items;
  singles = map job_of w.singles.items;
  full = map job_of w.full.items;
  current = items_of w.current.items;
  bytes = w.bytes;
  last = map job_of w.last.items;
}

abbrev pub seen_of : rust_seen.FolderEntry → Text × Node
seen_of s = (string_bytes s.path, s.node)
