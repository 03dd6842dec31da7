-- The status and the message of each refusal of a choice (own).
use Rattle.std.specs.Prelude.{ℕ, ◌++◌, codes, decimal, string_bytes}
use Rattle.base_model.specs.Text.{Text, hex_upper}
use Rattle.cmd_types.specs.StagesTexts.{shown, damage_text, long_text}
use Rattle.restore_choice.specs.declared.fault.ChoiceFault.{ChoiceFault}
use Rattle.restore_choice.specs.declared.fault.ChoiceFault.TheVariants.{NoBackup, SetMissing, HistoryMissing, HistoryForm, HistoryLong, ManifestDamaged, TargetEarly}
use Rattle.restore_choice.specs.declared.fault.DamagedManifest.{DamagedManifest}

-- the status of each
abbrev pub choice_status : ChoiceFault → ℕ
choice_status NoBackup = 60
choice_status (SetMissing label) = 61
choice_status (HistoryMissing timeline) = 103
choice_status (HistoryForm timeline line) = 104
choice_status (HistoryLong name limit) = 70
choice_status (ManifestDamaged fault) = 64
choice_status TargetEarly = 102

-- a manifest of which neither member can be read
abbrev pub damaged_message : DamagedManifest → Text
damaged_message fault =
    codes "manifest of '" ++ (shown (string_bytes fault.label) ++ damage_text fault.main fault.copy)

-- a line of a history that isn't valid
abbrev pub history_message : ℕ → ℕ → Text
history_message timeline line =
    codes "history " ++ (hex_upper 8 timeline ++ (codes " line " ++ (decimal line ++ codes " is not valid")))

-- its message
abbrev pub choice_message : ChoiceFault → Text
choice_message NoBackup = codes "no backup exists"
choice_message (SetMissing label) = codes "backup set '" ++ (string_bytes label ++ codes "' does not exist")
choice_message (HistoryMissing timeline) =
    codes "history of timeline " ++ (decimal timeline ++ codes " is missing")
choice_message (HistoryForm timeline line) = history_message timeline line
choice_message (HistoryLong name limit) = long_text (string_bytes name) limit
choice_message (ManifestDamaged fault) = damaged_message fault
choice_message TargetEarly = codes "no backup is early enough for the target"
