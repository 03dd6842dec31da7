-- What the code's manifest and list state of a backup. Own.
use Rattle.std.specs.Prelude.{◌≡◌, List, Option, option_map}
use Rattle.base_model.specs.declared.files.FileEntry as rust_entry
use Rattle.base_model.specs.declared.files.Manifest as rust_manifest
use Rattle.base_model.specs.Text.{Text}
use Rattle.base_model.specs.Values.{BackupInfo, FileEntry, backup_info_of, file_entry_of, manifest_of}
use Rattle.backup_plan.specs.declared.values.Choice.{Choice}
use Rattle.backup_plan.specs.declared.values.Listing.{Listing}
use Rattle.backup_plan.specs.Views.{taken_files, taken_folders}
use Rattle.backup_record.specs.declared.manifest_record.Head.{Head}
use Rattle.backup_record.specs.declared.manifest_record.Record.{Record}
use Rattle.backup_record.specs.declared.ran.Ran.{Ran}
use Rattle.backup_record.specs.Further.{MayBeAdded, with_further}
use Rattle.backup_record.specs.Making.{manifest_with, IsListWith}
use Rattle.backup_record.specs.Views.{entries_in}

-- the manifest states this, and has these files and folders
abbrev pub IsManifestWith : Head → List FileEntry → List Text → rust_manifest.Manifest → Type 0
IsManifestWith head files folders manifest = manifest_of manifest ≡ manifest_with head files folders

-- the record's manifest has what a run of these choices brought of the listing, and a further file where there is one
abbrev pub RecordsListing : Head → Ran → Listing → List Choice → Option rust_entry.FileEntry → Record → Type 0
RecordsListing head ran listing choices further r = IsManifestWith head
    (with_further (option_map file_entry_of further) (entries_in ran listing.files.items choices))
    (taken_folders listing) r.manifest

-- the file may be in a manifest besides those of the listing
abbrev pub MayBeAddedTo : Listing → rust_entry.FileEntry → Type 0
MayBeAddedTo listing e = MayBeAdded (taken_files listing) (taken_folders listing) (file_entry_of e)

-- its list is this one with the backup of its manifest
abbrev pub ExtendsList : BackupInfo → Record → Type 0
ExtendsList before r = IsListWith before (manifest_of r.manifest) (backup_info_of r.info)
