-- Which refusal of a running server's backup a fault below is.
use Rattle.std.specs.Prelude.{Bool, true}
use Rattle.archive_wait.specs.declared.fault.AwaitFault.{AwaitFault}
use Rattle.archive_wait.specs.declared.fault.AwaitFault.TheVariants as waits
use Rattle.server_talk.specs.declared.backups.fault.OnlineFault.{OnlineFault}
use Rattle.server_talk.specs.declared.backups.fault.OnlineFault.TheVariants as talks
use Rattle.server_talk.specs.declared.session.fault.ServerFault.{ServerFault}
use Rattle.server_talk.specs.declared.session.fault.ServerFault.TheVariants as server
use Rattle.cmd_types.specs.declared.stages.object.Object.TheVariants.{Repo as TheRepo, Spool as TheSpool, Server as TheServer}
use Rattle.cmd_types.specs.declared.stages.halt.Halt.{Halt}
use Rattle.cmd_types.specs.declared.stages.halt.Halt.TheVariants.{Refused, Failed, NoMemory}
use Rattle.cmd_backup_common.specs.declared.parts.fault.BackupFault.{BackupFault}
use Rattle.cmd_backup_offline.specs.declared.fault.OfflineFault.{OfflineFault}
use Rattle.cmd_backup_offline.specs.Faults.{of_backup as later_of}
use Rattle.cmd_backup_online.specs.declared.fault.OnlineBackupFault.{OnlineBackupFault}
use Rattle.cmd_backup_online.specs.declared.fault.OnlineBackupFault.TheVariants.{Take, Server, TablespaceMap, SpanWrong, NotArrived, Ambiguous}

-- each comes before the backup is listed
abbrev pub online_early : OnlineBackupFault → Bool
online_early fault = true

-- of a halt that a stopped server's backup may have
abbrev pub of_offline : Halt OfflineFault → Halt OnlineBackupFault
of_offline (Refused fault) = Refused (Take fault)
of_offline (Failed object) = Failed object
of_offline NoMemory = NoMemory

-- of one that any backup may have
abbrev pub of_backup : Halt BackupFault → Halt OnlineBackupFault
of_backup halt = of_offline (later_of halt)

-- of a server's answer
abbrev pub of_server : ServerFault → Halt OnlineBackupFault
of_server server.NoMemory = NoMemory
of_server server.ServerConnection = Failed TheServer
of_server fault = Refused (Server fault)

-- of a talk
abbrev pub of_talk : OnlineFault → Halt OnlineBackupFault
of_talk (talks.Server fault) = of_server fault
of_talk talks.TablespaceMap = Refused TablespaceMap
of_talk (talks.SpanWrong start stop) = Refused (SpanWrong start stop)

-- of a wait
abbrev pub of_wait : AwaitFault → Halt OnlineBackupFault
of_wait (waits.NotArrived segment turns) = Refused (NotArrived segment turns)
of_wait (waits.Ambiguous first second) = Refused (Ambiguous first second)
of_wait waits.Repo = Failed TheRepo
of_wait waits.Spool = Failed TheSpool
of_wait waits.NoMemory = NoMemory
