-- The draft of a backup of a running server's data folder (pgBackRest user guide, "Backup").
use Rattle.std.specs.Prelude.{◌⊎◌, ℕ, List, Option, true, IfSome}
use Rattle.base_devices.specs.Links.{LinkState}
use Rattle.base_devices.specs.DataFolder.{Nodes, IsTreeListing}
use Rattle.base_model.specs.Text.{Text}
use Rattle.base_model.specs.Values.{BackupInfo, FileEntry}
use Rattle.repo_names.specs.declared.paths.names.NameFault.{NameFault}
use Rattle.backup_plan.specs.declared.fault.PlanFault.TheVariants as plans
use Rattle.worker_pool.specs.declared.dispatch.fault.Lost.{Lost}
use Rattle.backup_plan.specs.Filter.{ListedNode, kept, files_of, IsRefused}
use Rattle.backup_make.specs.declared.draft.Draft.{Draft}
use Rattle.backup_make.specs.Draft.{IsDraft}
use Rattle.cmd_backup_common.specs.declared.parts.fault.BackupFault.{BackupFault}
use Rattle.cmd_backup_common.specs.declared.parts.fault.BackupFault.TheVariants.{TooMany, LinkFound, NameRefused, ListingUnordered, ControlMissing}
use Rattle.cmd_backup_offline.specs.declared.order.OfflineOrder.{OfflineOrder}
use Rattle.cmd_backup_offline.specs.Drafting.{IsOfflineOf}
use Rattle.cmd_backup_offline.specs.Equal.{EqualCause}

-- It is of a listing of this folder, as the order asks for it besides this list and these files.
pub record IsDraftFrom (stanza : Text) (o : OfflineOrder) (nodes : Option Nodes) (list : BackupInfo)
    (old : List FileEntry) (d : Draft) : Type 0 where
  pub is_draft : IsDraft d
  pub seen : List ListedNode
  pub listing : IfSome nodes (λ f. IsTreeListing f seen)
  pub second : ℕ
  pub later : IsOfflineOf true stanza o seen list old second d

-- no backup of a running server may be made of the listing
abbrev pub ListingCause : List ListedNode → BackupFault → Type 0
ListingCause seen (TooMany limit) = IsRefused (kept true seen) (plans.TooMany limit)
ListingCause seen (LinkFound path) = IsRefused (kept true seen) (plans.LinkFound path)
ListingCause seen (NameRefused path) = (fault : NameFault) × IsRefused (kept true seen) (plans.NameRefused path fault)
ListingCause seen ListingUnordered = (nodes : Nodes) → ¬ IsTreeListing nodes seen
ListingCause seen (ControlMissing path) = IsRefused (kept true seen) (plans.ControlMissing path)
ListingCause seen other = ⊥

-- there is no draft of it: none may be made, or these links didn't report the digests that are compared with those of
-- these entries
abbrev pub UndraftedCause : List ListedNode → List LinkState → List Lost → List FileEntry → BackupFault → Type 0
UndraftedCause seen links before old fault = ListingCause seen fault
    ⊎ EqualCause links before old (files_of (kept true seen)) fault
