-- The status and the message of each refusal of a restore, and the line of one that succeeded (own).
use Rattle.std.specs.Prelude.{ℕ, ◌++◌, codes, decimal, string_bytes}
use Rattle.base_text.specs.declared.sum.Sum.{Sum}
use Rattle.base_text.specs.Sum.{sum_text}
use Rattle.base_model.specs.declared.labels.Label.{Label}
use Rattle.base_model.specs.Names.{label_text}
use Rattle.base_model.specs.Text.{Text}
use Rattle.cmd_types.specs.StagesTexts.{shown}
use Rattle.restore_choice.specs.Texts.{choice_status, choice_message, damaged_message}
use Rattle.cmd_restore.specs.declared.fault.RestoreCommandFault.{RestoreCommandFault}
use Rattle.cmd_restore.specs.declared.fault.RestoreCommandFault.TheVariants.{SetForm, TargetForm, Unchosen, Running, NotEmpty, ManifestDamaged, WorkersLost, Unread, FileDamaged}

-- the line that states the label of the backup that was restored
abbrev pub restored_line : Label → Text
restored_line label = codes "INFO: restored backup " ++ (label_text label ++ codes "\n")

abbrev pub restore_status : RestoreCommandFault → ℕ
restore_status SetForm = 6
restore_status TargetForm = 6
restore_status (Unchosen fault) = choice_status fault
restore_status Running = 41
restore_status (NotEmpty path) = 62
restore_status (ManifestDamaged fault) = 64
restore_status (WorkersLost lost) = 55
restore_status (Unread path) = 56
restore_status (FileDamaged path known found) = 63

-- what follows the path of a file whose bytes don't have their sum
abbrev pub sums_end : Sum → Sum → Text
sums_end known found = codes "': checksum " ++ (sum_text known.0 ++ (codes ", found " ++ sum_text found.0))

abbrev pub restore_message : RestoreCommandFault → Text
restore_message SetForm = codes "option 'set' has no valid value"
restore_message TargetForm = codes "option 'target' has no valid value"
restore_message (Unchosen fault) = choice_message fault
restore_message Running = codes "postmaster.pid is there"
restore_message (NotEmpty path) = codes "folder is not empty: '" ++ (shown (string_bytes path) ++ codes "'")
restore_message (ManifestDamaged fault) = damaged_message fault
restore_message (WorkersLost lost) = decimal lost ++ codes " workers lost"
restore_message (Unread path) = codes "'" ++ (shown (string_bytes path) ++ codes "' could not be read")
restore_message (FileDamaged path known found) = codes "'" ++ (shown (string_bytes path) ++ sums_end known found)
