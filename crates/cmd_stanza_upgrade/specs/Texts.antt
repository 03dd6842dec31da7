-- The status and the message of each refusal of stanza-upgrade, and the line that says how it ended (own).
use Rattle.std.specs.Prelude.{ℕ, ◌++◌, codes, decimal, string_bytes}
use Rattle.base_model.specs.Text.{Text}
use Rattle.repo_stanza.specs.declared.stanza_upgrade.Upgraded.{Upgraded}
use Rattle.repo_stanza.specs.declared.stanza_upgrade.Upgraded.TheVariants.{New, Same}
use Rattle.cmd_types.specs.StagesTexts.{history_text, long_text}
use Rattle.cmd_types.specs.ServerTextsTexts.{server_status, server_message}
use Rattle.cmd_stanza_upgrade.specs.declared.fault.UpgradeCommandFault.{UpgradeCommandFault}
use Rattle.cmd_stanza_upgrade.specs.declared.fault.UpgradeCommandFault.TheVariants.{HistoryDiffers, Server, TooMany, TooLong}

-- the line of a cluster of this version that was added, with the id of its log, or of one that was the current one
abbrev pub line_of : Text → ℕ → Upgraded → Text
line_of stanza version (New number) = codes "INFO: stanza '" ++ (stanza ++ (codes "' upgraded to "
    ++ (decimal version ++ (codes "-" ++ (decimal number ++ codes "\n")))))
line_of stanza version Same = codes "INFO: stanza '" ++ (stanza ++ codes "' is already up to date\n")

-- the status and the line of what an upgrade is refused for
abbrev pub upgrade_status : UpgradeCommandFault → ℕ
upgrade_status (HistoryDiffers at) = 101
upgrade_status (Server fault) = server_status fault
upgrade_status (TooMany limit) = 71
upgrade_status (TooLong name limit) = 70

abbrev pub upgrade_message : UpgradeCommandFault → Text
upgrade_message (HistoryDiffers at) = history_text at
upgrade_message (Server fault) = server_message fault
upgrade_message (TooMany limit) = codes "more than " ++ decimal limit
upgrade_message (TooLong name limit) = long_text (string_bytes name) limit
