-- What the expiry that follows a backup does. Own.
use Rattle.std.specs.Prelude.{◌≡◌, ◌≤◌, ℕ, Option, None, Some, Result, Ok, OnOk, IfOk, IfErr, string_bytes}
use Rattle.base_devices.specs.States.{ClockState, ClockFailed, DiskState}
use Rattle.base_disk.specs.Store.{ChangesOnly}
use Rattle.base_model.specs.Steps.{Expire}
use Rattle.base_model.specs.Text.{Text}
use Rattle.base_crash_lists.specs.Beside.{StaysBeside}
use Rattle.cmd_types.specs.declared.stages.halt.Halt.{Halt}
use Rattle.cmd_types.specs.declared.stages.halt.Halt.TheVariants.{Refused}
use Rattle.cmd_types.specs.declared.stages.outcome.Outcome.{Outcome}
use Rattle.cmd_types.specs.declared.stages.outcome.Outcome.TheVariants.{Finished}
use Rattle.cmd_types.specs.declared.stages.plan.SyncScope.TheVariants.{Whole}
use Rattle.cmd_types.specs.DisksEffect.{DoesPart, DoesWhole}
use Rattle.cmd_types.specs.Reached.{OnFinished}
use Rattle.expire_rules.specs.declared.rules.Rules.{Rules}
use Rattle.expire_make.specs.Expiry.{Touches, retention}
use Rattle.expire_make.specs.Losing.{MayExpire}
use Rattle.expire_make.specs.Planning.{BackupPairLasts}
use Rattle.cmd_expire.specs.declared.fault.FollowUpFault.{FollowUpFault}
use Rattle.cmd_expire.specs.FollowUp.{AddsLines, FollowUpFails, WasKnown}
use Rattle.cmd_expire.specs.Pruning.{IsMomentIn}
use Rattle.run_backup.specs.declared.fault.BackupCommandFault.{BackupCommandFault}
use Rattle.run_backup.specs.declared.fault.BackupCommandFault.TheVariants.{FollowUp}
use Rattle.run_backup.specs.Faults.{of_made}

-- the halt is that of an expiry after a backup with these lines, and this holds of its fault
abbrev pub IsFollowing : {F : Type 0} → Text → (FollowUpFault → Type 0) → Halt (BackupCommandFault F) → Type 0
IsFollowing lines P (Refused (FollowUp known fault)) = (string_bytes known ≡ lines) × P fault
IsFollowing lines P other = ⊥

-- What an expiry did after a backup that ended with these lines.
pub record Followed {F : Type 0} (stanza : Text) (rules : Rules) (lines : Text) (repo new_repo : DiskState)
    (clock new_clock : ClockState) (result : Result Outcome (Halt (BackupCommandFault F))) : Type 0 where
  pub moment : ℕ
  pub may_be : IsMomentIn rules.full clock.least new_clock.least moment
  pub later : clock.least ≤ new_clock.least
  pub part : DoesPart Whole stanza (Expire (retention rules moment)) repo.view new_repo.view
  pub whole : OnOk result (DoesWhole Whole stanza (Expire (retention rules moment)) repo.view new_repo.view)
  pub known : OnOk result (WasKnown rules.full new_clock moment)
  pub adds : IfOk result (λ outcome. OnFinished outcome
      (AddsLines stanza rules moment repo.view.now new_repo.view.now lines))
  pub cause : IfErr result (IsFollowing lines (FollowUpFails stanza repo new_repo (ClockFailed clock new_clock)))
  pub beside : StaysBeside stanza repo.view new_repo.view
  pub only : ChangesOnly (MayExpire stanza) repo.view new_repo.view
  pub touches : Touches stanza rules moment repo.view new_repo.view
  pub lasts : OnOk result (BackupPairLasts stanza repo.view new_repo.view)

-- nothing was done, and the command ends as its backup did
pub record EndsAs {F D C : Type 0} (made : Result Outcome (Halt F)) (before after : D) (first last : C)
    (result : Result Outcome (Halt (BackupCommandFault F))) : Type 0 where
  pub is : result ≡ of_made made
  pub repo_same : after ≡ before
  pub clock_same : last ≡ first

-- where there are rules, and the backup ended with lines, an expiry followed
abbrev pub FollowsBackup : {F D C : Type 0} → Text → Option Rules → Result Outcome (Halt F) → (D → DiskState) → D → D
    → (C → ClockState) → C → C → Result Outcome (Halt (BackupCommandFault F)) → Type 0
FollowsBackup stanza None made state before after clock first last result = EndsAs made before after first last result
FollowsBackup stanza (Some rules) (Ok (Finished lines)) state before after clock first last result =
    Followed stanza rules (string_bytes lines) (state before) (state after) (clock first) (clock last) result
FollowsBackup stanza (Some rules) made state before after clock first last result =
    EndsAs made before after first last result
