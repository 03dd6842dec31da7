use Rattle.std.proofs.Common.{◌∙◌, arith, get_or, None}
use Rattle.restore_steps.proofs.Listing.{got}
use Rattle.restore_make.proofs.Marks.{there, one_long, one_by, one_more, ended_at}
use Rattle.restore_make.proofs.kept_files.mark.Goals as goal

pub mark_one-requires : goal.mark_one-requires
mark_one-requires c =
    let x = c.index-candidates-i.result in
    let within = c.requires.places c.loop-i.i x (got c.args.candidates.now c.loop-i.i x c.loop-i-test.true c.index-candidates-i.is) in
    omega (arith, within, c.loop-i.invariant.count)

pub loop-i-preserved : goal.loop-i-preserved
loop-i-preserved c =
    let cs = c.args.candidates.now in
    let ends = c.args.ends.now in
    let n = c.loop-i.i in
    let x = c.index-candidates-i.result in
    let marks = c.loop-i.marks.items in
    let new = c.mark_one.new.marks.items in
    let end = get_or ends n None in
    let at = got cs n x c.loop-i-test.true c.index-candidates-i.is in
    let end_at = there ends n None (omega (arith, c.loop-i-test.true, c.requires.ends)) in
    let within = c.requires.places n x at in
    record {
      count = one_long marks new x end c.mark_one.ensures ∙ c.loop-i.invariant.count;
      by = one_by cs ends marks new n x end at end_at c.mark_one.ensures c.loop-i.invariant.by;
      all = one_more cs ends marks new n x end (omega (arith, within, c.loop-i.invariant.count)) at end_at c.mark_one.ensures c.loop-i.invariant.all;
    }

pub returns-clause-all : goal.returns-clause-all
returns-clause-all c = λ k x end at_k end_k equal. c.loop-i.invariant.all k x end (ended_at c.args.candidates.now k c.loop-i.i x at_k (omega (arith, c.loop-i-test.false, c.loop-i.auto.i-end))) at_k end_k equal
