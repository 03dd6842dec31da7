-- What the status of a refusal says about it.
use Rattle.std.proofs.Common.{◌≤◌, ◌⊎◌, inr, arith}
use Rattle.cmd_backup_common.proofs.Statuses.{take_within}
use Rattle.cmd_backup_offline.specs.declared.fault.OfflineFault.{OfflineFault}
use Rattle.cmd_backup_offline.specs.declared.fault.OfflineFault.TheVariants as faults
use Rattle.cmd_backup_offline.specs.Texts.{offline_status}

-- none is that of a command that succeeded, or of a server's refusal that is 47 to 51
pub offline_within : (fault : OfflineFault) → (2 ≤ offline_status fault) × ((offline_status fault ≤ 46) ⊎ (52 ≤ offline_status fault))
offline_within (faults.Take fault) = take_within fault
offline_within (faults.PriorDamaged label main copy) = (omega arith, inr (omega arith))
