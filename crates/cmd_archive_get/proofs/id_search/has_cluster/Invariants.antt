use Rattle.std.proofs.Common.{◌≡◌, ◌++◌, List, length}
use Rattle.base_model.specs.declared.clusters.ClusterId.{ClusterId}
use Rattle.cmd_archive_get.proofs.Searches.{NoneSame}
use Rattle.cmd_archive_get.proofs.id_search.has_cluster.Given as goal

abbrev pub invariant-loop-cluster : goal.invariant-loop-cluster
invariant-loop-cluster l = record {
  parts : (seen : List ClusterId) × (l.history ≡ l.rest ++ seen) × NoneSame l.known seen;
}

abbrev pub decreases-loop-cluster : goal.decreases-loop-cluster
decreases-loop-cluster l = length l.rest
