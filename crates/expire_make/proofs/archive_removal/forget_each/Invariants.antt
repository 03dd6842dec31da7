use Rattle.std.proofs.Common.{◌≡◌, map, drop}
use Rattle.std.specs.Prelude.{IsSome}
use Rattle.expire_make.specs.Removed.{Counted}
use Rattle.base_model.specs.Text.{Text}
use Rattle.base_model.specs.Values.{entry_of}
use Rattle.expire_make.specs.Losing.{TakesAway, IsUnneeded}
use Rattle.expire_make.specs.Planning.{keeps_by}
use Rattle.expire_make.specs.Unneeded.{prefix_of, ids_in}
use Rattle.expire_make.proofs.Tellings.{GoneEach}
use Rattle.expire_make.proofs.archive_removal.forget_each.Given as goal

abbrev pub invariant-loop-cluster : goal.invariant-loop-cluster
invariant-loop-cluster g l = let D = g.D.Disk in record {
  gone : GoneEach l.prefix l.rules l.current (map entry_of l.entries) (ids_in l.history) (ids_in (drop l.cluster-index l.history)) (D.state l.d).view.now;
  counts : IsSome (D.state l.fn.d).view.now → Counted (λ n. (stanza : Text) → l.prefix ≡ prefix_of stanza → IsUnneeded stanza (keeps_by l.rules l.current (map entry_of l.entries)) n) l.removed (D.state l.fn.d).view.now (D.state l.d).view.now;
  takes : TakesAway (λ n. (stanza : Text) → l.prefix ≡ prefix_of stanza → IsUnneeded stanza (keeps_by l.rules l.current (map entry_of l.entries)) n) (D.state l.fn.d) (D.state l.d);
}
