-- How the command ends by how its backup ended, and what is reported of a refusal.
use Rattle.std.specs.Prelude.{ℕ, Bool, true, false, [], Result, Ok, Err, string_bytes}
use Rattle.base_model.specs.Text.{Text}
use Rattle.cmd_types.specs.declared.stages.halt.Halt.{Halt}
use Rattle.cmd_types.specs.declared.stages.halt.Halt.TheVariants.{Refused, Failed, NoMemory}
use Rattle.cmd_expire.specs.Texts.{after_status, after_message}
use Rattle.run_backup.specs.declared.fault.BackupCommandFault.{BackupCommandFault}
use Rattle.run_backup.specs.declared.fault.BackupCommandFault.TheVariants.{Backup, FollowUp}

-- a halt of the backup
abbrev pub of_backup : {F : Type 0} → Halt F → Halt (BackupCommandFault F)
of_backup (Refused fault) = Refused (Backup fault)
of_backup (Failed object) = Failed object
of_backup NoMemory = NoMemory

-- the command ends as its backup did
abbrev pub of_made : {T F : Type 0} → Result T (Halt F) → Result T (Halt (BackupCommandFault F))
of_made (Ok outcome) = Ok outcome
of_made (Err halt) = Err (of_backup halt)

-- the refusal comes before the command's first step: that of a backup does, and an expiry follows its last
abbrev pub backup_early : {F : Type 0} → BackupCommandFault F → Bool
backup_early (Backup fault) = true
backup_early (FollowUp lines fault) = false

-- the status, by that of a backup's refusal
abbrev pub backup_status : {F : Type 0} → (F → ℕ) → BackupCommandFault F → ℕ
backup_status status (Backup fault) = status fault
backup_status status (FollowUp lines fault) = after_status fault

-- the message, by that of a backup's refusal
abbrev pub backup_message : {F : Type 0} → (F → Text) → BackupCommandFault F → Text
backup_message message (Backup fault) = message fault
backup_message message (FollowUp lines fault) = after_message fault

-- the lines that report the backup that was made before the refusal
abbrev pub backup_lines : {F : Type 0} → BackupCommandFault F → Text
backup_lines (Backup fault) = []
backup_lines (FollowUp lines fault) = string_bytes lines
