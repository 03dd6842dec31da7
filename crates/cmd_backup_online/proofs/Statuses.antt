-- What the status of a refusal says about it.
use Rattle.std.proofs.Common.{◌≤◌, arith}
use Rattle.cmd_types.proofs.Statuses.{server_over}
use Rattle.cmd_backup_offline.proofs.Statuses.{offline_within}
use Rattle.cmd_backup_online.specs.declared.fault.OnlineBackupFault.{OnlineBackupFault}
use Rattle.cmd_backup_online.specs.declared.fault.OnlineBackupFault.TheVariants as faults
use Rattle.cmd_backup_online.specs.Texts.{online_backup_status}

-- no refusal has the status of a command that succeeded
pub online_backup_over : (fault : OnlineBackupFault) → 2 ≤ online_backup_status fault
online_backup_over (faults.Take fault) = (offline_within fault).0
online_backup_over (faults.Server fault) = server_over fault
online_backup_over faults.TablespaceMap = omega arith
online_backup_over (faults.SpanWrong start stop) = omega arith
online_backup_over (faults.NotArrived segment turns) = omega arith
online_backup_over (faults.Ambiguous first second) = omega arith
