-- The status and the message of each refusal of a running server's backup (own).
use Rattle.std.specs.Prelude.{ℕ, ◌++◌, codes, decimal, string_bytes}
use Rattle.base_model.specs.declared.wal.Segment.{Segment}
use Rattle.base_model.specs.Names.{segment_text}
use Rattle.base_model.specs.Text.{Text}
use Rattle.cmd_types.specs.StagesTexts.{twice_text}
use Rattle.cmd_types.specs.ServerTextsTexts.{server_status, server_message}
use Rattle.cmd_backup_offline.specs.Texts.{offline_status, offline_message}
use Rattle.cmd_backup_online.specs.declared.fault.OnlineBackupFault.{OnlineBackupFault}
use Rattle.cmd_backup_online.specs.declared.fault.OnlineBackupFault.TheVariants.{Take, Server, TablespaceMap, SpanWrong, NotArrived, Ambiguous}

-- the status of what a running server's backup is refused for
abbrev pub online_backup_status : OnlineBackupFault → ℕ
online_backup_status (Take fault) = offline_status fault
online_backup_status (Server fault) = server_status fault
online_backup_status TablespaceMap = 43
online_backup_status (SpanWrong start stop) = 46
online_backup_status (NotArrived segment turns) = 42
online_backup_status (Ambiguous first second) = 36

-- a first and a last segment between which there is no log
abbrev pub span_text : Segment → Segment → Text
span_text start stop = codes "WAL from " ++ (segment_text start ++ (codes " to " ++ segment_text stop))

-- a segment that this many steps of others didn't bring
abbrev pub wait_text : Segment → ℕ → Text
wait_text segment turns =
    codes "segment " ++ (segment_text segment ++ (codes " not archived after " ++ (decimal turns ++ codes " turns")))

abbrev pub online_backup_message : OnlineBackupFault → Text
online_backup_message (Take fault) = offline_message fault
online_backup_message (Server fault) = server_message fault
online_backup_message TablespaceMap = codes "tablespaces are not supported"
online_backup_message (SpanWrong start stop) = span_text start stop
online_backup_message (NotArrived segment turns) = wait_text segment turns
online_backup_message (Ambiguous first second) = twice_text (string_bytes first) (string_bytes second)
