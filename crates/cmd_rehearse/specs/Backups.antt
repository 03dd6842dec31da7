-- What a backup of a rehearsal is, after the commands before it. Own.
use Rattle.std.specs.Prelude.{◌≡◌, List, Option}
use Rattle.base_devices.specs.Content.{Content}
use Rattle.base_devices.specs.Links.{LinkState}
use Rattle.base_devices.specs.DataFolder.{Nodes}
use Rattle.base_devices.specs.States.{ClockState}
use Rattle.base_model.specs.declared.labels.BackupKind.{BackupKind}
use Rattle.base_model.specs.Steps.{Command}
use Rattle.base_model.specs.Text.{Text}
use Rattle.cmd_backup_offline.specs.declared.order.OfflineOrder.{OfflineOrder}
use Rattle.cmd_backup_offline.specs.Taken.{IsTaken}
use Rattle.cmd_rehearse.specs.declared.backup_totals.Amount.{Amount}
use Rattle.cmd_rehearse.specs.declared.backup_totals.Counted.{Counted}
use Rattle.cmd_rehearse.specs.Advancing.{Had}
use Rattle.cmd_rehearse.specs.Commands.{sample}
use Rattle.cmd_rehearse.specs.Counting.{ShowsLast}

-- a backup of this kind was made of the sample, with which some data folder and some links were backed up, between some
-- states of the clock
pub record IsTakenBy (stanza : Text) (kind : BackupKind) (before now : Option Content) : Type 0 where
  pub order : OfflineOrder
  pub kind_is : order.kind ≡ kind
  pub nodes : Option Nodes
  pub used : List LinkState
  pub clock : ClockState
  pub new_clock : ClockState
  pub lines : Text
  pub taken : IsTaken stanza sample order nodes used before now clock new_clock lines

-- it was made after these commands, and this many of its files are counted
pub record IsStep (stanza : Text) (prefix : Command) (kind : BackupKind) (counted : Counted) (old now : Option Content)
    (amount : Amount) : Type 0 where
  pub taken : Had stanza prefix old (λ before. IsTakenBy stanza kind before now)
  pub known : ShowsLast stanza counted now amount
