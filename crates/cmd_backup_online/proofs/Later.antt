-- What a running server's backup promises is so at a later state of the clock too.
use Rattle.std.proofs.Common.{List, Option, Some, None, arith}
use Rattle.std.specs.Prelude.{◌≤◌}
use Rattle.base_devices.specs.Content.{Content}
use Rattle.base_devices.specs.DataFolder.{Nodes}
use Rattle.base_devices.specs.Links.{LinkState}
use Rattle.base_devices.specs.States.{ClockState}
use Rattle.base_model.specs.Text.{Text}
use Rattle.repo_stanza.specs.declared.control.Control.{Control}
use Rattle.archive_lookup.specs.Turns.{Account, Turned}
use Rattle.cmd_backup_common.proofs.Times.{times_within}
use Rattle.cmd_backup_offline.specs.declared.order.OfflineOrder.{OfflineOrder}
use Rattle.cmd_backup_online.specs.Doing.{Received}
use Rattle.cmd_backup_online.specs.Taken.{BacksUpOnline, IsBackedUpOnline}

module _ (stanza : Text) (known : Control) (o : OfflineOrder) (nodes : Option Nodes) (received_reply : Received) (used : List LinkState) (old new : Option Content) (clock mid last : ClockState) (on : mid.least ≤ last.least) (lines : Text) where
  backed_later : (turned : List Turned) → IsBackedUpOnline stanza known o nodes received_reply used turned old new clock mid lines → IsBackedUpOnline stanza known o nodes received_reply used turned old new clock last lines
  backed_later turned m = record {
    list = m.list;
    seen = m.seen;
    listing = m.listing;
    room = m.room;
    backup = m.backup;
    second = m.second;
    later = m.later;
    label = m.label;
    start = m.start;
    times = times_within m.backup.entry.start m.backup.entry.stop clock clock mid last (omega arith) on m.times;
    prior = m.prior;
    line = m.line;
    choices = m.choices;
    online = m.online;
    received_is = m.received_is;
    wal = m.wal;
    label_file = m.label_file;
    read = m.read;
    entries = m.entries;
    refers = m.refers;
    cluster = m.cluster;
    db = m.db;
    adds = m.adds;
    alike = m.alike;
  }

  -- a later state of the clock is as good
  pub backs_up_later : (old_account account : Option Account) → BacksUpOnline stanza known o nodes received_reply used old_account account old new clock mid lines → BacksUpOnline stanza known o nodes received_reply used old_account account old new clock last lines
  backs_up_later old_account None h = tt
  backs_up_later old_account (Some k) h = λ of. let x = h of in (x.0, x.1, backed_later x.0 x.2)
