-- What the status of a refusal says about it.
use Rattle.std.proofs.Common.{◌≤◌, ◌⊎◌, inl, inr, arith}
use Rattle.cmd_backup_common.specs.declared.parts.fault.BackupFault.{BackupFault}
use Rattle.cmd_backup_common.specs.declared.parts.fault.BackupFault.TheVariants as faults
use Rattle.cmd_backup_common.specs.Texts.{backup_status}

-- no refusal has the status of a command that succeeded
pub backup_over : (fault : BackupFault) → 2 ≤ backup_status fault
backup_over (faults.HistoryDiffers at) = omega arith
backup_over (faults.StanzaMismatch kept found) = omega arith
backup_over faults.Running = omega arith
backup_over (faults.TooMany limit) = omega arith
backup_over (faults.WorkersLost lost) = omega arith
backup_over (faults.ClockBehind latest now) = omega arith
backup_over (faults.LinkFound path) = omega arith
backup_over (faults.NameRefused path) = omega arith
backup_over faults.ListingUnordered = omega arith
backup_over (faults.ControlMissing path) = omega arith
backup_over (faults.Unread path) = omega arith
backup_over (faults.TooLong name limit) = omega arith

-- none has a status of a server's refusal that is 47 to 51
apart : (fault : BackupFault) → (backup_status fault ≤ 46) ⊎ (52 ≤ backup_status fault)
apart (faults.HistoryDiffers at) = inr (omega arith)
apart (faults.StanzaMismatch kept found) = inl (omega arith)
apart faults.Running = inl (omega arith)
apart (faults.TooMany limit) = inr (omega arith)
apart (faults.WorkersLost lost) = inr (omega arith)
apart (faults.ClockBehind latest now) = inl (omega arith)
apart (faults.LinkFound path) = inl (omega arith)
apart (faults.NameRefused path) = inl (omega arith)
apart faults.ListingUnordered = inl (omega arith)
apart (faults.ControlMissing path) = inl (omega arith)
apart (faults.Unread path) = inr (omega arith)
apart (faults.TooLong name limit) = inr (omega arith)

pub take_within : (fault : BackupFault) → (2 ≤ backup_status fault) × ((backup_status fault ≤ 46) ⊎ (52 ≤ backup_status fault))
take_within fault = (backup_over fault, apart fault)
