-- The status and the message of each refusal of stanza-create (own).
use Rattle.std.specs.Prelude.{ℕ, ◌++◌, codes, decimal, string_bytes}
use Rattle.base_model.specs.Text.{Text}
use Rattle.cmd_types.specs.StagesTexts.{shown, damaged_text, history_text, mismatch_text}
use Rattle.cmd_types.specs.ServerTextsTexts.{server_status, server_message}
use Rattle.cmd_stanza_create.specs.declared.fault.CreateFault.{CreateFault}
use Rattle.cmd_stanza_create.specs.declared.fault.CreateFault.TheVariants.{Server, InfoDamaged, HistoryDiffers, StanzaMismatch, ArchiveLost, FilesFound}

-- the status and the line of what a new stanza is refused for
abbrev pub create_status : CreateFault → ℕ
create_status (Server fault) = server_status fault
create_status (InfoDamaged name main copy) = 22
create_status (HistoryDiffers at) = 101
create_status (StanzaMismatch kept found) = 23
create_status (ArchiveLost label) = 24
create_status (FilesFound name) = 29

abbrev pub create_message : CreateFault → Text
create_message (Server fault) = server_message fault
create_message (InfoDamaged name main copy) = damaged_text (string_bytes name) main copy
create_message (HistoryDiffers at) = history_text at
create_message (StanzaMismatch kept found) = mismatch_text kept found
create_message (ArchiveLost label) = codes "archive info is missing, backup info lists '"
    ++ (string_bytes label ++ codes "'")
create_message (FilesFound name) = codes "info files are missing, repository holds '"
    ++ (shown (string_bytes name) ++ codes "'")
