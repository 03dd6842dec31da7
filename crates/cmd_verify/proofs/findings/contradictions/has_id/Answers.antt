use Rattle.std.proofs.Common.{get_or}
use Rattle.std.proofs.lemmas.List.{get_or_default}
use Rattle.base_model.specs.declared.clusters.ClusterId.{ClusterId}
use Rattle.cmd_verify.specs.Contradictions.{IsIdOf}
use Rattle.cmd_verify.proofs.Adding.{at_place}
use Rattle.cmd_verify.proofs.Contradicted.{none_of_none, one_more_not, not_at_all}
use Rattle.cmd_verify.proofs.findings.contradictions.has_id.Goals as goal

abbrev none : ClusterId
none = record { id = 0; system = 0; version = 0 }

pub loop-cluster-init : goal.loop-cluster-init
loop-cluster-init c = none_of_none (IsIdOf c.args.id)

pub loop-cluster-preserved : goal.loop-cluster-preserved
loop-cluster-preserved c =
    let l = c.loop-cluster in
    let x = get_or c.args.history.now l.cluster-index none in
    one_more_not (IsIdOf c.args.id) c.args.history.now l.cluster-index x c.loop-cluster-test.true (get_or_default c.args.history.now l.cluster-index none x c.loop-cluster-test.true) l.invariant (c.is_id_of.ensures.no c.if-is_id_of.false)

pub returns-then-is_id_of-clause-yes : goal.returns-then-is_id_of-clause-yes
returns-then-is_id_of-clause-yes c = λ _.
    let l = c.loop-cluster in
    let x = get_or c.args.history.now l.cluster-index none in
    (x, at_place c.args.history.now l.cluster-index x c.loop-cluster-test.true (get_or_default c.args.history.now l.cluster-index none x c.loop-cluster-test.true), c.is_id_of.ensures.yes c.if-is_id_of.true)

pub returns-clause-no : goal.returns-clause-no
returns-clause-no c = λ _. not_at_all (IsIdOf c.args.id) c.args.history.now c.loop-cluster.cluster-index c.loop-cluster-test.false c.loop-cluster.invariant
