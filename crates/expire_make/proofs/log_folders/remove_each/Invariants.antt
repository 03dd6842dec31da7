use Rattle.std.proofs.Common.{◌≡◌, Some, map}
use Rattle.base_devices.specs.Content.{Name, Content, IsListing}
use Rattle.expire_make.specs.Removed.{Counted, pair_of}
use Rattle.expire_make.proofs.Counts.{AreThere}
use Rattle.expire_make.specs.Losing.{TakesAway}
use Rattle.expire_make.specs.Unneeded.{Forgets}
use Rattle.expire_make.proofs.Removals.{GoneBut}
use Rattle.expire_make.proofs.log_folders.remove_each.Given as goal

abbrev pub invariant-loop-each : goal.invariant-loop-each
invariant-loop-each g l = let D = g.D.Disk in record {
  gone : GoneBut l.prefix l.kept l.found l.each-index (D.state l.d).view.now;
  counts : (place : Name) (f : Content) → (D.state l.fn.d).view.now ≡ Some f → IsListing place f (map pair_of l.found) → Counted (Forgets l.prefix l.kept) l.removed (D.state l.fn.d).view.now (D.state l.d).view.now × AreThere l.found l.each-index (D.state l.d).view.now;
  takes : TakesAway (Forgets l.prefix l.kept) (D.state l.fn.d) (D.state l.d);
}
