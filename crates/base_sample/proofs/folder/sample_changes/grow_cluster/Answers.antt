use Rattle.std.proofs.Common.{◌*◌, ◌∙◌, refl, arith}
use Rattle.std.proofs.Math.Nat.{le_refl}
use Rattle.base_sample.specs.Bytes.{relation_path}
use Rattle.base_sample.specs.Folder.{made, grown_by}
use Rattle.base_sample.proofs.Changed.{none_grown, grown_more, grown_there, made_other, file_there}
use Rattle.base_sample.proofs.folder.sample_changes.grow_cluster.Goals as goal

pub loop-count-init : goal.loop-count-init
loop-count-init g c = record {
  grown = λ d had. none_grown d (g.T.DataFolder.state c.args.tree.now).nodes had;
  others = λ q none off. refl;
  proper = λ had. refl;
  opened = refl;
  later = le_refl (g.T.DataFolder.state c.args.tree.now).faults;
}

pub returns-in_err-grow_one-clause-others : goal.returns-in_err-grow_one-clause-others
returns-in_err-grow_one-clause-others g c = λ q none off.
    c.grow_one.ensures.others q (made_other c.args.number (10 * c.loop-count.count) q (omega arith) none)
    ∙ c.loop-count.invariant.others q none off

pub returns-in_err-grow_one-clause-proper : goal.returns-in_err-grow_one-clause-proper
returns-in_err-grow_one-clause-proper g c = λ had.
    let k = c.loop-count.count in
    let n = c.args.number in
    c.grow_one.ensures.proper
    (file_there (grown_by k (made n)) (relation_path (10 * k)) (g.T.DataFolder.state c.loop-count.tree).nodes
    (grown_there k (made n) (relation_path (10 * k)) (λ none. made_other n (10 * k) (relation_path (10 * k)) (omega arith) none refl))
    (c.loop-count.invariant.grown (made n) had))
    ∙ c.loop-count.invariant.proper had

pub loop-count-preserved : goal.loop-count-preserved
loop-count-preserved g c =
    let i = c.loop-count.invariant in
    let k = c.loop-count.count in
    let n = c.args.number in
    let now = g.T.DataFolder.state c.loop-count.tree in
    let next = g.T.DataFolder.state c.grow_one.new.tree in
    record {
      grown = λ d had. grown_more k d next.nodes (c.in_ok-grow_one.ensures.grown (grown_by k d) (i.grown d had));
      others = λ q none off. c.grow_one.ensures.others q (made_other n (10 * k) q (omega arith) none) ∙ i.others q none off;
      proper = λ had. c.grow_one.ensures.proper
          (file_there (grown_by k (made n)) (relation_path (10 * k)) now.nodes
          (grown_there k (made n) (relation_path (10 * k)) (λ none. made_other n (10 * k) (relation_path (10 * k)) (omega arith) none refl))
          (i.grown (made n) had))
          ∙ i.proper had;
      opened = c.grow_one.ensures.opened ∙ i.opened;
      later = omega (arith, i.later, c.grow_one.ensures.cause.later);
    }
