use Rattle.std.proofs.Common.{rules, ◌≡◌, ◌++◌, ◌∷◌, [], List, ◌∙◌, ap, length}
use Rattle.base_model.specs.declared.clusters.ClusterId.{ClusterId}
use Rattle.cmd_archive_get.specs.Getting.{IsSame}
use Rattle.cmd_archive_get.proofs.Searches.{parts_on, has_same, none_more, none_same, none_left}
use Rattle.cmd_archive_get.proofs.id_search.has_cluster.Goals as goal

pub returns-then-is_of-clause-there : goal.returns-then-is_of-clause-there
returns-then-is_of-clause-there c = λ yes.
    let i = c.loop-cluster.invariant in
    let cluster = c.in-Some.cluster.now in
    let last : c.loop-cluster.rest.now ≡ c.in-Some.earlier.now ++ cluster ∷ [] = search rules in
    let is = parts_on c.args.history.now c.loop-cluster.rest.now c.in-Some.earlier.now cluster i.parts.0 i.parts.1 last in
    let same : IsSame c.args.known.now cluster = search rules in
    has_same c.args.known.now c.args.history.now c.in-Some.earlier.now cluster i.parts.0 is same

pub loop-cluster-preserved : goal.loop-cluster-preserved
loop-cluster-preserved c =
    let i = c.loop-cluster.invariant in
    let cluster = c.in-Some.cluster.now in
    let last : c.loop-cluster.rest.now ≡ c.in-Some.earlier.now ++ cluster ∷ [] = search rules in
    let is = parts_on c.args.history.now c.loop-cluster.rest.now c.in-Some.earlier.now cluster i.parts.0 i.parts.1 last in
    let other : ¬ IsSame c.args.known.now cluster = search rules in
    record { parts = (cluster ∷ i.parts.0, is, none_more c.args.known.now cluster i.parts.0 other i.parts.2) }

pub returns-clause-absent : goal.returns-clause-absent
returns-clause-absent c = λ no.
    let i = c.loop-cluster.invariant in
    let zero : length c.loop-cluster.rest.now ≡ 0 = search rules in
    let empty = none_left c.loop-cluster.rest.now zero in
    none_same c.args.known.now c.args.history.now i.parts.0 (i.parts.1 ∙ ap (λ (l : List ClusterId). l ++ i.parts.0) empty) i.parts.2
