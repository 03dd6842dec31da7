-- Which command of the log a backup of a kind is (pgBackRest user guide, "Backup").
use Rattle.std.specs.Prelude.{List, Option}
use Rattle.base_devices.specs.Content.{Content}
use Rattle.base_devices.specs.Links.{LinkState}
use Rattle.base_model.specs.declared.labels.BackupKind.{BackupKind}
use Rattle.base_model.specs.declared.labels.BackupKind.TheVariants.{Full}
use Rattle.base_model.specs.Steps.{Command}
use Rattle.base_model.specs.Text.{Text}
use Rattle.backup_lemmas.specs.Backups.{IsFullBackup, IsAnyBackup}

-- a full one is of what these links read, one of another kind also of what its prior backup has
abbrev pub IsBackupBy : BackupKind → List LinkState → Text → Option Content → Command → Type 0
IsBackupBy Full links stanza old command = IsFullBackup links command
IsBackupBy kind links stanza old command = IsAnyBackup links stanza old command
