use Rattle.std.proofs.Common.{get_or, subst, sym}
use Rattle.std.proofs.lemmas.List.{get_or_default}
use Rattle.base_model.specs.declared.clusters.Cluster.{Cluster}
use Rattle.base_model.specs.Text.{In}
use Rattle.cmd_verify.proofs.Adding.{at_place, none_more}
use Rattle.cmd_verify.proofs.findings.entries.has_cluster.Goals as goal

abbrev none : Cluster
none = record { id = 0; system = 0; version = 0; control = 0; catalog = 0 }

pub loop-other-preserved : goal.loop-other-preserved
loop-other-preserved c =
    let l = c.loop-other in
    let x = get_or c.args.history.now l.other-index none in
    none_more c.args.history.now l.other-index c.args.cluster.now x c.loop-other-test.true (get_or_default c.args.history.now l.other-index none x c.loop-other-test.true) l.invariant (c.is_same_cluster.ensures.no c.if-is_same_cluster.false)

pub returns-then-is_same_cluster-clause-yes : goal.returns-then-is_same_cluster-clause-yes
returns-then-is_same_cluster-clause-yes c = λ _.
    let l = c.loop-other in
    let x = get_or c.args.history.now l.other-index none in
    subst (λ (y : Cluster). In y c.args.history.now) (sym (c.is_same_cluster.ensures.yes c.if-is_same_cluster.true)) (at_place c.args.history.now l.other-index x c.loop-other-test.true (get_or_default c.args.history.now l.other-index none x c.loop-other-test.true))
