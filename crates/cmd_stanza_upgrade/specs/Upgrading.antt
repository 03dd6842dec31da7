-- What stanza-upgrade does (pgBackRest command reference, "Stanza Upgrade Command").
use Rattle.std.specs.Prelude.{◌≡◌, ◌⊎◌, ◌+◌, ◌<◌, length, Option, Some, IfSome, IsSome, Result}
use Rattle.base_devices.specs.Content.{Content}
use Rattle.base_devices.specs.States.{DiskState}
use Rattle.base_model.specs.Steps.{StanzaUpgrade}
use Rattle.base_model.specs.Text.{Text}
use Rattle.base_model.specs.Values.{ArchiveInfo, BackupInfo}
use Rattle.repo_stanza.specs.declared.control.Control.{Control}
use Rattle.repo_stanza.specs.declared.stanza_upgrade.Upgraded.TheVariants.{New, Same}
use Rattle.repo_stanza.specs.ControlFile.{first_cluster}
use Rattle.repo_stanza.specs.HealingPair.{HaveTexts}
use Rattle.repo_stanza.specs.Judging.{HasList, IsOf}
use Rattle.repo_stanza.specs.Pairs.{HasStanzaOf, PairsAgree}
use Rattle.repo_stanza.specs.Upgrading.{most_clusters, longer_archive_text, longer_backup_text}
use Rattle.archive_store.specs.Still.{IsStill}
use Rattle.cmd_types.specs.declared.stages.halt.Halt.{Halt}
use Rattle.cmd_types.specs.declared.stages.outcome.Outcome.{Outcome}
use Rattle.cmd_types.specs.declared.stages.plan.SyncScope.TheVariants.{Whole}
use Rattle.cmd_types.specs.Reached.{OnFinished, reached_by}
use Rattle.cmd_types.specs.DisksEffect.{OnNone, RepoEffect}
use Rattle.cmd_stanza_upgrade.specs.declared.fault.UpgradeCommandFault.{UpgradeCommandFault}
use Rattle.cmd_stanza_upgrade.specs.Faults.{upgrade_early}
use Rattle.cmd_stanza_upgrade.specs.Texts.{line_of}

-- ---- at its end

-- The pairs had values with another current cluster, and both members of each have the text of its value with this
-- cluster under the next number; the line states that number.
pub record HasFurther (stanza : Text) (known : Control) (old new : Option Content) (lines : Text) : Type 0 where
  pub archive : ArchiveInfo
  pub list : BackupInfo
  pub had : IfSome old (λ f. HasList stanza f archive list)
  pub other : ¬ IsOf known archive
  pub few : length archive.history < most_clusters
  pub texts : IsSome old → IfSome new
      (HaveTexts stanza (longer_archive_text known archive) (longer_backup_text known archive list))
  pub line : lines ≡ line_of stanza known.version (New (length archive.history + 1))

-- the pairs were of this cluster, and the line states it
pub record WasCurrent (stanza : Text) (known : Control) (old : Option Content) (lines : Text) : Type 0 where
  pub had : IfSome old (HasStanzaOf stanza known)
  pub line : lines ≡ line_of stanza known.version Same

-- this cluster was added, or was the current one, and now the members of both pairs agree
pub record IsUpgraded (stanza : Text) (known : Control) (old new : Option Content) (lines : Text) : Type 0 where
  pub either : HasFurther stanza known old new lines ⊎ WasCurrent stanza known old lines
  pub agrees : IsSome old → IfSome new (PairsAgree stanza)

-- ---- what a call does to a disk

-- the repository goes through the command's step, or a part of it
abbrev pub UpgradesStanza : Text → Control → DiskState → DiskState → Result Outcome (Halt UpgradeCommandFault) → Type 0
UpgradesStanza stanza known old new result = RepoEffect Whole stanza (StanzaUpgrade (Some (first_cluster known)))
    (reached_by upgrade_early result) old.view new.view

-- it is of the cluster, with the line that says so
abbrev pub FinishesUpgraded : Text → Control → DiskState → DiskState → Outcome → Type 0
FinishesUpgraded stanza known old new outcome =
    OnFinished outcome (IsUpgraded stanza known old.view.now new.view.now)

-- where it is refused, the disk stays as it was
abbrev pub StaysIfRefused : DiskState → DiskState → Result Outcome (Halt UpgradeCommandFault) → Type 0
StaysIfRefused old new result = OnNone (reached_by upgrade_early result) (IsStill old.view new.view)
