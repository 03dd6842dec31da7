-- Which names the backup of a stanza changes, and what lasts of it.
use Rattle.std.specs.Prelude.{◌≡◌, ◌⊎◌, Some, IfSome, IsSome}
use Rattle.base_devices.specs.Content.{Name, Content}
use Rattle.base_devices.specs.Crash.{IsAlikeAt}
use Rattle.base_devices.specs.Moments.{View}
use Rattle.base_model.specs.declared.labels.Label.{Label}
use Rattle.base_model.specs.InfoFiles.{IsBackupText, IsLabel}
use Rattle.base_model.specs.Log.{Lists}
use Rattle.base_model.specs.Names.{backup_info, manifest_name}
use Rattle.base_model.specs.Pair.{PairIs}
use Rattle.base_model.specs.Text.{Text}
use Rattle.base_model.specs.Values.{BackupInfo}
use Rattle.base_model.specs.Walks.{IsSynced}
use Rattle.repo_pair.specs.Member.{IsMember}
use Rattle.archive_store.specs.Still.{IsStill}
use Rattle.backup_record.specs.Making.{labels_of}
use Rattle.backup_make.specs.Touched.{TouchesOnly, IsOfBackup}
use Rattle.cmd_backup_common.specs.Seconds.{second_of, AreBefore}

-- the label states a later second than each that f lists
abbrev pub IsNewLabel : Text → Label → Content → Type 0
IsNewLabel stanza label f = (v : BackupInfo) → PairIs IsBackupText f (backup_info stanza) v
    → AreBefore (labels_of v.backups) (second_of label)

-- no names but these, of the backup of this label, which is new, are touched
pub record TouchesNew (stanza : Text) (these : Label → Name → Type 0) (label : Label) (old new : View) : Type 0 where
  pub is_label : IsLabel label
  pub is_new : IfSome old.now (IsNewLabel stanza label)
  pub only : TouchesOnly (these label) old new

-- Whatever the disk held, it is as it was, or no names but these of one backup are touched, whose label is new.
abbrev pub TouchesOneOf : Text → (Label → Name → Type 0) → View → View → Type 0
TouchesOneOf stanza these old new = IsStill old new ⊎ ((label : Label) × TouchesNew stanza these label old new)

-- so it is with a stopped server's backup: these are the names in its label's folder, and those of the list's pair
abbrev pub TouchesOne : Text → View → View → Type 0
TouchesOne stanza old new = TouchesOneOf stanza (IsOfBackup stanza) old new

-- Where no name that is looked at was unsynced, no crash takes a member of two pairs: of the backup pair, and of the
-- manifest of a backup that is listed and wasn't before.
pub record CopiesLast (stanza : Text) (old new : View) : Type 0 where
  pub list : IsSynced stanza old → IsSome old.now → IsAlikeAt (IsMember (backup_info stanza)) new
  pub manifest : IsSynced stanza old → (f g : Content) → old.now ≡ Some f → new.now ≡ Some g → (label : Label)
      → Lists stanza g label → ¬ Lists stanza f label → IsAlikeAt (IsMember (manifest_name stanza label)) new
