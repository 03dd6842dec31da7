-- Why there is no draft of a backup of a data folder's listing (pgBackRest user guide, "Backup").
use Rattle.std.specs.Prelude.{◌≤◌, ◌<◌, ◌+◌, ℕ, List, false}
use Rattle.base_devices.specs.DataFolder.{Nodes, IsTreeListing}
use Rattle.repo_names.specs.declared.paths.names.NameFault.{NameFault}
use Rattle.backup_plan.specs.declared.fault.PlanFault.TheVariants as plans
use Rattle.backup_plan.specs.Filter.{ListedNode, kept, IsRefused}
use Rattle.cmd_backup_common.specs.declared.parts.fault.BackupFault.{BackupFault}
use Rattle.cmd_backup_common.specs.declared.parts.fault.BackupFault.TheVariants.{TooMany, ClockBehind, LinkFound, NameRefused, ListingUnordered, ControlMissing}

-- no backup may be made of the listing
abbrev pub ListingCause : List ListedNode → BackupFault → Type 0
ListingCause seen (TooMany limit) = IsRefused (kept false seen) (plans.TooMany limit)
ListingCause seen (LinkFound path) = IsRefused (kept false seen) (plans.LinkFound path)
ListingCause seen (NameRefused path) = (fault : NameFault) × IsRefused (kept false seen) (plans.NameRefused path fault)
ListingCause seen ListingUnordered = (nodes : Nodes) → ¬ IsTreeListing nodes seen
ListingCause seen (ControlMissing path) = IsRefused (kept false seen) (plans.ControlMissing path)
ListingCause seen other = ⊥

-- or the clock is too far behind a second of which this holds
abbrev pub DraftCause : List ListedNode → ℕ → (ℕ → Type 0) → BackupFault → Type 0
DraftCause seen least Stated (ClockBehind latest now) = (now + 10 < latest) × (least ≤ now) × Stated latest
DraftCause seen least Stated other = ListingCause seen other
