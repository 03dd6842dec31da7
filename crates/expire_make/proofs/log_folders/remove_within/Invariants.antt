use Rattle.std.specs.Prelude.{IsSome}
use Rattle.expire_make.specs.Removed.{Counted}
use Rattle.std.proofs.Common.{map, drop, string_bytes}
use Rattle.expire_make.specs.Losing.{TakesAway}
use Rattle.expire_make.specs.Unneeded.{Forgets}
use Rattle.expire_make.proofs.Removals.{GoneWithin}
use Rattle.expire_make.proofs.log_folders.remove_within.Given as goal

abbrev pub invariant-loop-folder : goal.invariant-loop-folder
invariant-loop-folder g l = let D = g.D.Disk in record {
  gone : GoneWithin l.prefix l.kept l.place (map string_bytes l.folders) (map string_bytes (drop l.folder-index l.folders)) (D.state l.d).view.now;
  counts : IsSome (D.state l.fn.d).view.now → Counted (Forgets l.prefix l.kept) l.removed (D.state l.fn.d).view.now (D.state l.d).view.now;
  takes : TakesAway (Forgets l.prefix l.kept) (D.state l.fn.d) (D.state l.d);
}
