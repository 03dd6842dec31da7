-- Which names a backup changes.
use Rattle.std.specs.Prelude.{◌≡◌, ◌⊎◌, IsTrue}
use Rattle.base_devices.specs.Content.{Name, at, is_below}
use Rattle.base_devices.specs.Moments.{View, GrowsBy}
use Rattle.base_devices.specs.States.{DiskState}
use Rattle.base_model.specs.declared.labels.Label.{Label}
use Rattle.base_model.specs.Names.{backup_info, label_folder}
use Rattle.base_model.specs.Text.{Text}
use Rattle.repo_pair.specs.Member.{IsOfPair}
use Rattle.backup_make.specs.declared.draft.Draft.{Draft}
use Rattle.backup_make.specs.Draft.{stanza_of}

-- At each other name the disk holds the same, and a crash leaves no more than before.
pub record TouchesOnly (these : Name → Type 0) (old new : View) : Type 0 where
  pub now : (n : Name) → ¬ these n → at n new.now ≡ at n old.now
  pub time : GrowsBy (λ n _. these n) these old new

-- a name in the folder of this label, a member of the pair of the stanza's list, or the name at which one is put first
abbrev pub IsOfBackup : Text → Label → Name → Type 0
IsOfBackup stanza label name = IsTrue (is_below (label_folder stanza label) name) ⊎ IsOfPair (backup_info stanza) name

-- no other names than those of the draft's backup are touched
abbrev pub TouchesBackup : Draft → DiskState → DiskState → Type 0
TouchesBackup d old new = TouchesOnly (IsOfBackup (stanza_of d) d.label) old.view new.view
