-- What the status of a refusal says about it.
use Rattle.std.proofs.Common.{◌⊎◌, ◌≤◌, ◌≢◌, ◌≡◌, ℕ, arith, inl, inr, List, Option}
use Rattle.cmd_types.proofs.Statuses.{server_over}
use Rattle.cmd_stanza_create.specs.Talking.{Ended, IsServerRefusal}
use Rattle.cmd_stanza_create.proofs.Statuses.{server_not_found, not_server}
use Rattle.cmd_stanza_upgrade.specs.declared.fault.UpgradeCommandFault.{UpgradeCommandFault}
use Rattle.cmd_stanza_upgrade.specs.declared.fault.UpgradeCommandFault.TheVariants as faults
use Rattle.cmd_stanza_upgrade.specs.Faults.{UpgradeCloses}
use Rattle.cmd_stanza_upgrade.specs.Texts.{upgrade_status}

-- no refusal has the status of a command that succeeded
pub upgrade_over : (fault : UpgradeCommandFault) → 2 ≤ upgrade_status fault
upgrade_over (faults.HistoryDiffers at) = omega arith
upgrade_over (faults.Server fault) = server_over fault
upgrade_over (faults.TooMany limit) = omega arith
upgrade_over (faults.TooLong name limit) = omega arith

-- nor that of findings
pub upgrade_not_found : (fault : UpgradeCommandFault) → upgrade_status fault ≢ 65
upgrade_not_found (faults.HistoryDiffers at) = λ is. absurd (omega (arith, is))
upgrade_not_found (faults.Server fault) = server_not_found fault
upgrade_not_found (faults.TooMany limit) = λ is. absurd (omega (arith, is))
upgrade_not_found (faults.TooLong name limit) = λ is. absurd (omega (arith, is))

-- at the status of a server's answer the talk was ended, or at 70 and 71 nothing was sent
pub upgrade_closed : (rose : Type 0) (old new : Option (List ℕ)) (fault : UpgradeCommandFault) → IsServerRefusal (upgrade_status fault) → UpgradeCloses rose old new fault →
    Ended new ⊎ (rose ⊎ ((70 ≤ upgrade_status fault) × (new ≡ old)))
upgrade_closed rose old new (faults.HistoryDiffers at) is closes = not_server 101 (inr (omega arith)) is
upgrade_closed rose old new (faults.Server fault) is (inl ended) = inl ended
upgrade_closed rose old new (faults.Server fault) is (inr failed) = inr (inl failed)
upgrade_closed rose old new (faults.TooMany limit) is (inl ended) = inl ended
upgrade_closed rose old new (faults.TooMany limit) is (inr same) = inr (inr (omega arith, same))
upgrade_closed rose old new (faults.TooLong name limit) is (inl ended) = inl ended
upgrade_closed rose old new (faults.TooLong name limit) is (inr same) = inr (inr (omega arith, same))

-- with another failure of the connection
pub closes_as : (rose risen : Type 0) (old new : Option (List ℕ)) → (rose → risen) → (fault : UpgradeCommandFault) → UpgradeCloses rose old new fault → UpgradeCloses risen old new fault
closes_as rose risen old new to (faults.HistoryDiffers at) closes = closes
closes_as rose risen old new to (faults.Server fault) (inl ended) = inl ended
closes_as rose risen old new to (faults.Server fault) (inr failed) = inr (to failed)
closes_as rose risen old new to (faults.TooMany limit) closes = closes
closes_as rose risen old new to (faults.TooLong name limit) closes = closes
