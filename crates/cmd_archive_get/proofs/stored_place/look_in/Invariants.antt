use Rattle.std.proofs.Common.{◌≡◌, ◌++◌, List, length, Option}
use Rattle.std.specs.Prelude.{IfSome}
use Rattle.base_devices.specs.Content.{Content}
use Rattle.base_devices.specs.States.{OnlyReads}
use Rattle.base_model.specs.declared.clusters.ClusterId.{ClusterId}
use Rattle.cmd_archive_get.specs.Getting.{AbsentIn}
use Rattle.cmd_archive_get.specs.Serving.{IsLeft}
use Rattle.cmd_archive_get.proofs.stored_place.look_in.Given as goal

abbrev pub invariant-loop-cluster : goal.invariant-loop-cluster
invariant-loop-cluster g l = let D = g.D.Disk in record {
  parts : (seen : List ClusterId) × (l.history ≡ l.rest ++ seen) × ((f : Option Content) → IsLeft l.stanza (D.state l.fn.repo).view (D.state l.repo).view f → IfSome f (AbsentIn seen l.stanza l.known l.name));
  looks : OnlyReads (D.state l.fn.repo) (D.state l.repo);
}

abbrev pub decreases-loop-cluster : goal.decreases-loop-cluster
decreases-loop-cluster g l = length l.rest
