-- What the status of a refusal says about it.
use Rattle.std.proofs.Common.{◌≢◌, ◌≤◌, ◌⊎◌, inr, arith}
use Rattle.cmd_expire.specs.declared.fault.ExpireCommandFault.{ExpireCommandFault}
use Rattle.cmd_expire.specs.declared.fault.ExpireCommandFault.TheVariants as faults
use Rattle.cmd_expire.specs.declared.fault.FollowUpFault.{FollowUpFault}
use Rattle.cmd_expire.specs.declared.fault.FollowUpFault.TheVariants as following
use Rattle.cmd_expire.specs.Texts.{expire_status, after_status}

-- it is no status of a command that succeeded, and none of a server's refusal that is 47 to 51
pub prune_within : (fault : ExpireCommandFault) → (2 ≤ expire_status fault) × ((expire_status fault ≤ 46) ⊎ (52 ≤ expire_status fault))
prune_within (faults.HistoryDiffers at) = (omega arith, inr (omega arith))

-- nor is that of an expiry after a backup, which comes after the command's first steps
pub after_late : (fault : FollowUpFault) → (73 ≤ after_status fault) × (after_status fault ≤ 90) × (after_status fault ≢ 83)
after_late following.PairLost = (omega arith, omega arith, λ e. absurd (omega (arith, e)))
after_late (following.HistoryDiffers at) = (omega arith, omega arith, λ e. absurd (omega (arith, e)))
after_late following.Repo = (omega arith, omega arith, λ e. absurd (omega (arith, e)))
after_late following.Clock = (omega arith, omega arith, λ e. absurd (omega (arith, e)))
after_late following.NoMemory = (omega arith, omega arith, λ e. absurd (omega (arith, e)))
