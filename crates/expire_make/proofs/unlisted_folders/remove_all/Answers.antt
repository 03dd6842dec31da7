use Rattle.std.proofs.Common.{inr}
use Rattle.std.specs.Prelude.{IsTrue, nat_eq}
use Rattle.std.specs.List.{starts_with}
use Rattle.expire_make.proofs.Losses.{takes_none, takes_on}
use Rattle.expire_make.proofs.Emptying.{absent_next, absent_last}
use Rattle.expire_make.proofs.unlisted_folders.remove_all.Goals as goal

pub loop-each-init : goal.loop-each-init
loop-each-init g c = record { gone = λ n i front. inr i; takes = takes_none (λ n. IsTrue (starts_with nat_eq n c.args.prefix.now)) _ }

pub returns-in_err-remove_after-clause-takes : goal.returns-in_err-remove_after-clause-takes
returns-in_err-remove_after-clause-takes g c = takes_on (λ n. IsTrue (starts_with nat_eq n c.args.prefix.now)) _ _ _ c.loop-each.invariant.takes c.remove_after.ensures.takes

pub loop-each-preserved : goal.loop-each-preserved
loop-each-preserved g c = record {
  gone = absent_next c.args.prefix.now c.args.found.now c.loop-each.each-index c.each-item.result _ _ _ c.loop-each-test.true c.each-item.is c.deref.ensures c.remove_after.ensures.takes c.in_ok-remove_after.ensures.gone c.loop-each.invariant.gone;
  takes = takes_on (λ n. IsTrue (starts_with nat_eq n c.args.prefix.now)) _ _ _ c.loop-each.invariant.takes c.remove_after.ensures.takes;
}

pub returns-clause-gone : goal.returns-clause-gone
returns-clause-gone g c = absent_last c.args.prefix.now c.args.found.now c.loop-each.each-index _ c.loop-each-test.false c.loop-each.invariant.gone
