-- What the status of a refusal says about it.
use Rattle.std.proofs.Common.{◌≤◌, arith}
use Rattle.restore_choice.specs.declared.fault.ChoiceFault.{ChoiceFault}
use Rattle.restore_choice.specs.declared.fault.ChoiceFault.TheVariants as choices
use Rattle.restore_choice.specs.Texts.{choice_status}
use Rattle.cmd_restore.specs.declared.fault.RestoreCommandFault.{RestoreCommandFault}
use Rattle.cmd_restore.specs.declared.fault.RestoreCommandFault.TheVariants as faults
use Rattle.cmd_restore.specs.Texts.{restore_status}

choice_over : (fault : ChoiceFault) → 2 ≤ choice_status fault
choice_over choices.NoBackup = omega arith
choice_over (choices.SetMissing label) = omega arith
choice_over (choices.HistoryMissing n) = omega arith
choice_over (choices.HistoryForm n line) = omega arith
choice_over (choices.HistoryLong name limit) = omega arith
choice_over (choices.ManifestDamaged fault) = omega arith
choice_over choices.TargetEarly = omega arith

-- no refusal has the status of a command that succeeded, or that found nothing
pub restore_over : (fault : RestoreCommandFault) → 2 ≤ restore_status fault
restore_over faults.SetForm = omega arith
restore_over faults.TargetForm = omega arith
restore_over (faults.Unchosen fault) = choice_over fault
restore_over faults.Running = omega arith
restore_over (faults.NotEmpty path) = omega arith
restore_over (faults.ManifestDamaged fault) = omega arith
restore_over (faults.WorkersLost lost) = omega arith
restore_over (faults.Unread path) = omega arith
restore_over (faults.FileDamaged path known found) = omega arith

choice_within : (fault : ChoiceFault) → choice_status fault ≤ 104
choice_within choices.NoBackup = omega arith
choice_within (choices.SetMissing label) = omega arith
choice_within (choices.HistoryMissing n) = omega arith
choice_within (choices.HistoryForm n line) = omega arith
choice_within (choices.HistoryLong name limit) = omega arith
choice_within (choices.ManifestDamaged fault) = omega arith
choice_within choices.TargetEarly = omega arith

-- each is one of the program's statuses
pub restore_within : (fault : RestoreCommandFault) → restore_status fault ≤ 104
restore_within faults.SetForm = omega arith
restore_within faults.TargetForm = omega arith
restore_within (faults.Unchosen fault) = choice_within fault
restore_within faults.Running = omega arith
restore_within (faults.NotEmpty path) = omega arith
restore_within (faults.ManifestDamaged fault) = omega arith
restore_within (faults.WorkersLost lost) = omega arith
restore_within (faults.Unread path) = omega arith
restore_within (faults.FileDamaged path known found) = omega arith
