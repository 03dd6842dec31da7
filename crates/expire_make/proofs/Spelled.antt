-- The text of what is left is that of its sections.
use Rattle.std.proofs.Common.{◌≡◌, ◌≤◌, length, refl, arith}
use Rattle.base_model.specs.Values.{BackupInfo}
use Rattle.base_model.specs.InfoText.{info_text}
use Rattle.base_model.specs.InfoFiles.{IsBackupInfo, IsBackupText, backup_sections, info_limit}
use Rattle.repo_stanza.specs.HealingPair.{backup_text}
use Rattle.expire_make.specs.Planning.{list_text}

pub spelled : (v : BackupInfo) → info_text (backup_sections v) ≡ list_text v
unfolding list_text
spelled v = refl

pub fits : (v : BackupInfo) → length (list_text v) ≤ info_limit → length (info_text (backup_sections v)) ≤ info_limit
unfolding list_text
fits v h = h

pub unfits : (v : BackupInfo) → length (info_text (backup_sections v)) ≤ info_limit → length (list_text v) ≤ info_limit
unfolding list_text
unfits v h = h

-- a shorter list has a text too
pub fits_less : (v w : BackupInfo) → length (backup_text w) ≤ length (backup_text v) → length (list_text v) ≤ info_limit → length (list_text w) ≤ info_limit
unfolding list_text
fits_less v w less h = omega (arith, less, h)

pub text_of : (v : BackupInfo) → IsBackupInfo v → length (list_text v) ≤ info_limit → IsBackupText v (list_text v)
unfolding list_text
text_of v rules h = record { rules = rules; spelled = refl; within = h }
