use Rattle.std.proofs.Common.{◌∙◌, refl, arith}
use Rattle.std.proofs.Math.Nat.{le_refl}
use Rattle.base_sample.specs.Folder.{relations}
use Rattle.base_sample.proofs.Holding.{no_relations, relations_more, relation_other, relation_is_placed}
use Rattle.base_sample.proofs.folder.sample_files.write_relations.Goals as goal

pub loop-place-init : goal.loop-place-init
loop-place-init g c = record {
  has = λ had. no_relations (g.T.DataFolder.state c.args.tree.now).nodes had;
  others = λ q none. refl;
  proper = λ had. refl;
  opened = refl;
  later = le_refl (g.T.DataFolder.state c.args.tree.now).faults;
}

pub returns-in_err-write_relation-clause-others : goal.returns-in_err-write_relation-clause-others
returns-in_err-write_relation-clause-others g c = λ q none.
    c.write_relation.ensures.others q (relation_other c.args.count c.loop-place.place q c.loop-place-test.true none)
    ∙ c.loop-place.invariant.others q none

pub returns-in_err-write_relation-clause-proper : goal.returns-in_err-write_relation-clause-proper
returns-in_err-write_relation-clause-proper g c = λ had.
    c.write_relation.ensures.proper (relation_is_placed (relations c.loop-place.place) c.loop-place.place (g.T.DataFolder.state c.loop-place.tree).nodes (omega arith) (c.loop-place.invariant.has had))
    ∙ c.loop-place.invariant.proper had

pub loop-place-preserved : goal.loop-place-preserved
loop-place-preserved g c =
    let i = c.loop-place.invariant in
    let k = c.loop-place.place in
    let now = g.T.DataFolder.state c.loop-place.tree in
    let next = g.T.DataFolder.state c.write_relation.new.tree in
    record {
      has = λ had. relations_more k now.nodes next.nodes (omega arith) c.in_ok-write_relation.ensures.has c.write_relation.ensures.others (i.has had);
      others = λ q none. c.write_relation.ensures.others q (relation_other c.args.count k q c.loop-place-test.true none) ∙ i.others q none;
      proper = λ had. c.write_relation.ensures.proper (relation_is_placed (relations k) k now.nodes (omega arith) (i.has had)) ∙ i.proper had;
      opened = c.write_relation.ensures.opened ∙ i.opened;
      later = omega (arith, i.later, c.write_relation.ensures.cause.later);
    }
