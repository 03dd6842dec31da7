use Rattle.std.proofs.Common.{sym, subst, lit≤}
use Rattle.base_model.specs.Json.{IsValue}
use Rattle.repo_ini.proofs.Built.{IsValue-built}
use Rattle.base_model.specs.InfoFiles.{cluster_id_field}
use Rattle.repo_info.proofs.Clusters.{built_identity}
use Rattle.repo_info.proofs.cluster_ids.cluster_of.Goals as goal

pub are_same-requires-clause-second : goal.are_same-requires-clause-second
are_same-requires-clause-second c =
    let cluster = c.in-Some.cluster in
    subst IsValue (sym c.in_ok-expected.ensures) (IsValue-built (cluster_id_field cluster).1 (built_identity cluster c.in-Some.ensures.rules.0) (lit≤ tt))
