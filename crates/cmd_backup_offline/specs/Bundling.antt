-- Which files of a backup are stored together (pgBackRest user guide, "File Bundling"; configuration reference,
-- "Repository Options").
use Rattle.std.specs.Prelude.{◌≡◌, ◌<◌, ℕ, List, Option, Some, None, IsSomeAnd, slice_get}
use Rattle.base_model.specs.Values.{FileEntry}
use Rattle.backup_plan.specs.declared.values.Choice.{Choice}
use Rattle.backup_plan.specs.declared.values.Choice.TheVariants.{Bundle}
use Rattle.backup_plan.specs.Listed.{Taken}

-- bytes of the backup's own lie as the choice says: in the bundle of its number, or at the file's own name
abbrev pub LiesBy : Choice → FileEntry → Type 0
LiesBy (Bundle number item) e = IsSomeAnd e.bundle (λ b. b.number ≡ number)
LiesBy other e = e.bundle ≡ None

-- The entry is of one of these files, for each of which a choice was made. Where its bytes are the backup's own they
-- lie as the choice of its file says.
pub record IsLaidBy (choices : List Choice) (fs : List Taken) (e : FileEntry) : Type 0 where
  pub index : ℕ
  pub file : Taken
  pub choice : Choice
  pub file_is : slice_get fs index ≡ Some file
  pub choice_is : slice_get choices index ≡ Some choice
  pub path : e.path ≡ file.path
  pub lies : e.reference ≡ None → 0 < e.size → LiesBy choice e
