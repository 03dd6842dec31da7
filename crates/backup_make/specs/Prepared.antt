-- What is saved of a backup. Own.
use Rattle.std.specs.Prelude.{◌≡◌, ℕ, List, Option}
use Rattle.base_model.specs.Text.{Text}
use Rattle.base_model.specs.InfoFiles.{IsBackupText}
use Rattle.base_model.specs.ManifestText.{IsManifest}
use Rattle.base_model.specs.Values.{BackupInfo, Manifest}
use Rattle.backup_sink.specs.declared.keeper.EndedItem.{EndedItem}
use Rattle.backup_record.specs.Faults.{HasControl}
use Rattle.backup_record.specs.Making.{IsListWith}
use Rattle.backup_make.specs.declared.draft.Draft.{Draft}
use Rattle.backup_make.specs.Draft.{list_in, manifest_for}
use Rattle.backup_make.specs.Online.{Online}

-- The manifest is that of a draft whose jobs ended so and which stopped in this second, and the text is that of the
-- stanza's list with its backup.
pub record Prepares (d : Draft) (o : Option Online) (ends : List (List EndedItem)) (stop : ℕ) (m : Manifest)
    (text : Text) : Type 0 where
  pub manifest_is : m ≡ manifest_for d o ends stop
  pub rules : IsManifest m
  pub control : HasControl m.files
  pub list : BackupInfo
  pub listed : IsListWith (list_in d) m list
  pub valid : IsBackupText list text
