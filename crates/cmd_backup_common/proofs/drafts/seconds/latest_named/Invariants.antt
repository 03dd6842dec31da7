use Rattle.std.proofs.Common.{◌≤◌}
use Rattle.base_devices.specs.States.{OnlyReads}
use Rattle.cmd_backup_common.specs.Seconds.{MayCount}
use Rattle.cmd_backup_common.proofs.drafts.seconds.latest_named.Given as goal

abbrev pub invariant-loop-name : goal.invariant-loop-name
invariant-loop-name g l = let D = g.D.Disk in record {
  listed : l.listed ≤ l.latest;
  named : MayCount l.stanza l.listed l.present (D.state l.fn.d).view.now l.latest;
  looks : OnlyReads (D.state l.fn.d) (D.state l.d);
}
