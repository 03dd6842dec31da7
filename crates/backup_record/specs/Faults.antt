-- Why no record is made of what was received. Own.
use Rattle.std.specs.Prelude.{◌≡◌, ◌⊎◌, List, None, IsSome}
use Rattle.base_model.specs.Text.{Text}
use Rattle.base_model.specs.Values.{FileEntry}
use Rattle.backup_plan.specs.Listed.{entry_at, control_path}
use Rattle.backup_plan.specs.Filter.{version_path}
use Rattle.backup_record.specs.declared.manifest_record.RecordFault.{RecordFault}
use Rattle.backup_record.specs.declared.manifest_record.RecordFault.TheVariants as faults

-- a file of the manifest has the path
abbrev pub HasEntry : Text → List FileEntry → Type 0
HasEntry path files = IsSome (entry_at path files)

-- the files that a backup can't do without were received
pub record HasControl (files : List FileEntry) : Type 0 where
  pub version : HasEntry version_path files
  pub control : HasEntry control_path files

-- the path is that of a file that a backup can't do without, and none of these files has it: the version's, or else the
-- control file's
abbrev pub IsMissing : Text → List FileEntry → Type 0
IsMissing path files = (entry_at path files ≡ None)
    × ((path ≡ version_path) ⊎ ((path ≡ control_path) × HasEntry version_path files))

abbrev pub RecordFails : List FileEntry → RecordFault → Type 0
RecordFails files (faults.ControlMissing path) = IsMissing path.now files
RecordFails files faults.NoMemory = Unit {0}
