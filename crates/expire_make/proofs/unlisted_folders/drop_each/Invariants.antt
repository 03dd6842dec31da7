use Rattle.std.proofs.Common.{◌≡◌, false, map, drop, string_bytes}
use Rattle.base_devices.specs.States.{OnlyReads}
use Rattle.base_model.specs.Values.{entry_of}
use Rattle.expire_rules.specs.Labels.{labels_of}
use Rattle.expire_make.specs.Losing.{TakesAway, IsUnlisted}
use Rattle.expire_make.proofs.Emptying.{EmptiedBut}
use Rattle.expire_make.proofs.unlisted_folders.drop_each.Given as goal

abbrev pub invariant-loop-name : goal.invariant-loop-name
invariant-loop-name g l = let D = g.D.Disk in record {
  gone : EmptiedBut l.stanza (labels_of (map entry_of l.entries)) (map string_bytes l.names) (map string_bytes (drop l.name-index l.names)) (D.state l.d).view.now;
  takes : TakesAway (IsUnlisted l.stanza (labels_of (map entry_of l.entries))) (D.state l.fn.d) (D.state l.d);
  idle : l.is_dropped ≡ false → OnlyReads (D.state l.fn.d) (D.state l.d);
}
