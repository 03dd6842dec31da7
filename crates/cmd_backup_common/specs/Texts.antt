-- The status and the message of each refusal of a backup, and what is reported about one that was made (own).
use Rattle.std.specs.Prelude.{ℕ, ◌++◌, codes, decimal, string_bytes}
use Rattle.base_model.specs.declared.labels.Label.{Label}
use Rattle.base_model.specs.Names.{label_text}
use Rattle.base_model.specs.Text.{Text}
use Rattle.cmd_types.specs.StagesTexts.{shown, history_text, long_text, mismatch_text}
use Rattle.cmd_backup_common.specs.declared.parts.fault.BackupFault.{BackupFault}
use Rattle.cmd_backup_common.specs.declared.parts.fault.BackupFault.TheVariants.{HistoryDiffers, StanzaMismatch, Running, TooMany, WorkersLost, ClockBehind, LinkFound, NameRefused, ListingUnordered, ControlMissing, Unread, TooLong}

-- the line that states the label of a backup that was made
abbrev pub label_line : Label → Text
label_line label = codes "INFO: new backup label = " ++ (label_text label ++ codes "\n")

abbrev pub backup_status : BackupFault → ℕ
backup_status (HistoryDiffers at) = 101
backup_status (StanzaMismatch kept found) = 23
backup_status Running = 41
backup_status (TooMany limit) = 71
backup_status (WorkersLost lost) = 55
backup_status (ClockBehind latest now) = 40
backup_status (LinkFound path) = 44
backup_status (NameRefused path) = 45
backup_status ListingUnordered = 45
backup_status (ControlMissing path) = 28
backup_status (Unread path) = 56
backup_status (TooLong name limit) = 70

abbrev pub backup_message : BackupFault → Text
backup_message (HistoryDiffers at) = history_text at
backup_message (StanzaMismatch kept found) = mismatch_text kept found
backup_message Running = codes "postmaster.pid is there"
backup_message (TooMany limit) = codes "more than " ++ decimal limit
backup_message (WorkersLost lost) = decimal lost ++ codes " workers lost"
backup_message (ClockBehind latest now) =
    codes "latest backup " ++ (decimal latest ++ (codes ", clock " ++ decimal now))
backup_message (LinkFound path) = codes "'" ++ (shown (string_bytes path) ++ codes "' is a link")
backup_message (NameRefused path) = codes "name '" ++ (shown (string_bytes path) ++ codes "' is refused")
backup_message ListingUnordered = codes "listing is not in order"
backup_message (ControlMissing path) = codes "'" ++ (shown (string_bytes path) ++ codes "' is missing")
backup_message (Unread path) = codes "'" ++ (shown (string_bytes path) ++ codes "' could not be read")
backup_message (TooLong name limit) = long_text (string_bytes name) limit
