-- The status and the message of each refusal of a backup of any kind, and what is reported about one that was made.
use Rattle.std.specs.Prelude.{ℕ, ◌++◌, codes, string_bytes, Option}
use Rattle.base_model.specs.declared.labels.BackupKind.{BackupKind}
use Rattle.base_model.specs.declared.labels.Label.{Label}
use Rattle.base_model.specs.Text.{Text}
use Rattle.base_model.specs.Values.{Entry}
use Rattle.cmd_types.specs.StagesTexts.{shown, damage_text}
use Rattle.cmd_backup_common.specs.Priors.{kind_line}
use Rattle.cmd_backup_common.specs.Texts.{label_line, backup_status, backup_message}
use Rattle.cmd_backup_offline.specs.declared.fault.OfflineFault.{OfflineFault}
use Rattle.cmd_backup_offline.specs.declared.fault.OfflineFault.TheVariants.{Take, PriorDamaged}

-- a warning, where the backup became a full one, and the line that states its label
abbrev pub offline_lines : BackupKind → Option Entry → Label → Text
offline_lines kind base label = kind_line kind base ++ label_line label

abbrev pub offline_status : OfflineFault → ℕ
offline_status (Take fault) = backup_status fault
offline_status (PriorDamaged label main copy) = 64

abbrev pub offline_message : OfflineFault → Text
offline_message (Take fault) = backup_message fault
offline_message (PriorDamaged label main copy) =
    codes "manifest of '" ++ (shown (string_bytes label) ++ damage_text main copy)
