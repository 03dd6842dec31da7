-- What a backup of any kind of a stopped server is (pgBackRest command reference, "Backup").
use Rattle.std.specs.Prelude.{◌<◌, List, length, Option, IfSome}
use Rattle.base_devices.specs.Content.{Content}
use Rattle.base_devices.specs.Links.{LinkState}
use Rattle.base_devices.specs.DataFolder.{Nodes, IsTreeListing}
use Rattle.base_devices.specs.States.{ClockState}
use Rattle.base_model.specs.Text.{Text}
use Rattle.base_model.specs.Values.{ArchiveInfo, BackupInfo}
use Rattle.backup_plan.specs.Filter.{ListedNode}
use Rattle.repo_stanza.specs.declared.control.Control.{Control}
use Rattle.repo_stanza.specs.Judging.{Validates, IsOf}
use Rattle.repo_stanza.specs.Pairs.{HavePairs}
use Rattle.cmd_backup_common.specs.Beginning.{most_backups, IsStopped}
use Rattle.cmd_backup_offline.specs.declared.order.OfflineOrder.{OfflineOrder}
use Rattle.cmd_backup_offline.specs.Making.{IsMade}

-- the list is what f's pairs validate to: they are of the cluster that is given, and list fewer backups than may be
pub record HasRoom (stanza : Text) (known : Control) (list : BackupInfo) (f : Content) : Type 0 where
  pub archive : ArchiveInfo
  pub backup : BackupInfo
  pub pairs : HavePairs stanza f archive backup
  pub of : IsOf known archive
  pub settles : Validates archive backup list
  pub few : length list.backups < most_backups

-- Ok of a backup, with its lines: of a stopped server one backup more is made, of what its folder shows, between these
-- two states of the clock.
pub record IsTaken (stanza : Text) (known : Control) (o : OfflineOrder) (nodes : Option Nodes) (used : List LinkState)
    (old new : Option Content) (clock new_clock : ClockState) (lines : Text) : Type 0 where
  pub list : BackupInfo
  pub seen : List ListedNode
  pub room : IfSome old (HasRoom stanza known list)
  pub listing : IfSome nodes (λ f. IsTreeListing f seen)
  pub stopped : IfSome nodes IsStopped
  pub made : IsMade stanza o list seen used old new clock new_clock lines
