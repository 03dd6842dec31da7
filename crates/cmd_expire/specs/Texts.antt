-- The status and the message of each refusal of expire, and the lines that say what was removed (own).
use Rattle.std.specs.Prelude.{ℕ, ◌++◌, List, codes, decimal, if◌then◌else◌, nat_eq}
use Rattle.std.specs.List.{flat_map}
use Rattle.base_model.specs.declared.labels.Label.{Label}
use Rattle.base_model.specs.Names.{label_text}
use Rattle.base_model.specs.Text.{Text}
use Rattle.cmd_types.specs.StagesTexts.{history_text}
use Rattle.cmd_expire.specs.declared.fault.ExpireCommandFault.{ExpireCommandFault}
use Rattle.cmd_expire.specs.declared.fault.ExpireCommandFault.TheVariants.{HistoryDiffers}
use Rattle.cmd_expire.specs.declared.fault.FollowUpFault.{FollowUpFault}
use Rattle.cmd_expire.specs.declared.fault.FollowUpFault.TheVariants as following

-- ---- what was removed

-- the line that states the label of a backup that was removed
abbrev pub label_line : Label → Text
label_line label = codes "INFO: expire backup " ++ (label_text label ++ codes "\n")

-- the line that says how many archive files were removed; there is none where none were
abbrev pub removed_line : ℕ → Text
removed_line removed = if nat_eq removed 0 then codes "" else codes "INFO: removed "
    ++ (decimal removed ++ codes " archive files\n")

-- a line for each label, and then that of the files
abbrev pub lines_of : List Label → ℕ → Text
lines_of labels removed = flat_map label_line labels ++ removed_line removed

-- ---- refusals

-- the status and the line of what an expiry is refused for
abbrev pub expire_status : ExpireCommandFault → ℕ
expire_status (HistoryDiffers at) = 101

abbrev pub expire_message : ExpireCommandFault → Text
expire_message (HistoryDiffers at) = history_text at

-- of the expiry after a backup
abbrev pub after_status : FollowUpFault → ℕ
after_status following.PairLost = 73
after_status (following.HistoryDiffers at) = 73
after_status following.Repo = 80
after_status following.Clock = 84
after_status following.NoMemory = 90

abbrev pub after_message : FollowUpFault → Text
after_message following.PairLost = codes "expiry after the backup: an info pair can't be read"
after_message (following.HistoryDiffers at) =
    codes "expiry after the backup: archive history and backup history differ at " ++ decimal at
after_message following.Repo = codes "repository failed"
after_message following.Clock = codes "clock failed"
after_message following.NoMemory = codes "out of memory"
