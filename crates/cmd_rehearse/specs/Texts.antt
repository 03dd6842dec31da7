-- The status and the message of each refusal (own).
use Rattle.std.specs.Prelude.{ℕ, ◌++◌, codes, string_bytes}
use Rattle.base_model.specs.Text.{Text}
use Rattle.cmd_types.specs.StagesTexts.{shown, history_text}
use Rattle.cmd_stanza_create.specs.Texts.{create_message}
use Rattle.cmd_archive_push.specs.Texts.{push_message}
use Rattle.cmd_backup_offline.specs.Texts.{offline_message}
use Rattle.cmd_restore.specs.Texts.{restore_message}
use Rattle.cmd_verify.specs.Texts.{verify_message}
use Rattle.cmd_rehearse.specs.declared.fault.StepFault.{StepFault}
use Rattle.cmd_rehearse.specs.declared.fault.StepFault.TheVariants.{Create, Push, Take, Lost, HistoryDiffers, Recover, Examine}
use Rattle.cmd_rehearse.specs.declared.fault.RehearseFault.{RehearseFault}
use Rattle.cmd_rehearse.specs.declared.fault.RehearseFault.TheVariants.{StanzaExists, NotEmpty, Step}

-- a refusal of a later step has a status of its own, for something was made before it
abbrev pub rehearse_status : RehearseFault → ℕ
rehearse_status (StanzaExists stanza) = 72
rehearse_status (NotEmpty path) = 62
rehearse_status (Step fault) = 76

-- the message is that of the command that the step makes
abbrev pub step_message : StepFault → Text
step_message (Create fault) = create_message fault
step_message (Push fault) = push_message fault
step_message (Take fault) = offline_message fault
step_message Lost = codes "what was rehearsed before can't be read"
step_message (HistoryDiffers at) = history_text at
step_message (Recover fault) = restore_message fault
step_message (Examine fault) = verify_message fault

abbrev pub rehearse_message : RehearseFault → Text
rehearse_message (StanzaExists stanza) = codes "stanza '" ++ (string_bytes stanza ++ codes "' exists")
rehearse_message (NotEmpty path) = codes "folder is not empty: '" ++ (shown (string_bytes path) ++ codes "'")
rehearse_message (Step fault) = step_message fault
