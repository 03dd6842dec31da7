use Rattle.std.proofs.Common.{arith}
use Rattle.serde_json.specs.View.{view}
use Rattle.repo_info.proofs.Identities.{system_of, version_of, same_cluster}
use Rattle.repo_info.proofs.cluster_ids.identity_in.Goals as goal

pub returns-clause-only : goal.returns-clause-only
returns-clause-only c = λ e rules id is.
    let d = view c.args.value.now in
    let system = system_of d (view c.in_ok-get.field-0.now) c.in_ok-system.system e is c.in_ok-get.ensures c.in_ok-system.ensures.some in
    let version = version_of d (view c.in_ok-get-2.field-0.now) c.in_ok-version.version e (omega arith) (omega (arith, rules.version)) is c.in_ok-get-2.ensures c.in_ok-version.ensures.some in
    same_cluster c.args.id c.in_ok-system.system c.in_ok-version.version e id system version
