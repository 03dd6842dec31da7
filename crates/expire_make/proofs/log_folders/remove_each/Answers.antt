use Rattle.std.proofs.Common.{inr, refl, sym, subst}
use Rattle.expire_make.specs.Unneeded.{Forgets}
use Rattle.expire_make.proofs.Losses.{takes_none, takes_on}
use Rattle.base_devices.specs.Content.{Name, IsThere, SameBut}
use Rattle.expire_make.proofs.Counts.{counted_none, counted_on, there_first, there_now, there_next, order_of}
use Rattle.expire_make.proofs.Removals.{gone_next, gone_last}
use Rattle.expire_make.proofs.log_folders.remove_each.Goals as goal

pub loop-each-init : goal.loop-each-init
loop-each-init g c = record { gone = λ stanza prefix_is n i off. inr i; counts = λ place f known listing. (counted_none (Forgets c.args.prefix.now c.args.kept.now) _ _ refl, there_first place c.args.found.now f _ known listing); takes = takes_none (Forgets c.args.prefix.now c.args.kept.now) _ }

pub returns-in_err-remove_one-clause-takes : goal.returns-in_err-remove_one-clause-takes
returns-in_err-remove_one-clause-takes g c = takes_on (Forgets c.args.prefix.now c.args.kept.now) _ _ _ c.loop-each.invariant.takes c.remove_one.ensures.takes

pub loop-each-preserved : goal.loop-each-preserved
loop-each-preserved g c = record {
  gone = gone_next c.args.prefix.now c.args.kept.now c.args.found.now c.loop-each.each-index c.each-item.result _ _ _ c.loop-each-test.true c.each-item.is c.deref.ensures c.remove_one.ensures.takes c.in_ok-remove_one.ensures.gone c.loop-each.invariant.gone;
  counts = λ place f known listing.
      let so_far = c.loop-each.invariant.counts place f known listing in
      let name = sym c.deref.ensures in
      let there = there_now c.args.found.now c.loop-each.each-index c.each-item.result c.loop-each-test.true c.each-item.is _ so_far.1 in (
        counted_on (Forgets c.args.prefix.now c.args.kept.now) _ _ _ _ _ _ c.saturating_add-removed.ensures so_far.0 (c.in_ok-remove_one.ensures.counts (subst (λ (n : Name). IsThere (g.D.Disk.state c.loop-each.d).view.now n) name there)),
        there_next c.args.found.now c.loop-each.each-index c.each-item.result c.loop-each-test.true c.each-item.is _ _ (order_of place c.args.found.now f listing) (subst (λ (n : Name). SameBut n (g.D.Disk.state c.loop-each.d).view.now (g.D.Disk.state c.remove_one.new.d).view.now) c.deref.ensures c.remove_one.ensures.others) so_far.1,
      );
  takes = takes_on (Forgets c.args.prefix.now c.args.kept.now) _ _ _ c.loop-each.invariant.takes c.remove_one.ensures.takes;
}

pub returns-clause-gone : goal.returns-clause-gone
returns-clause-gone g c = gone_last c.args.prefix.now c.args.kept.now c.args.found.now c.loop-each.each-index _ c.loop-each-test.false c.loop-each.invariant.gone

pub returns-clause-counts : goal.returns-clause-counts
returns-clause-counts g c = λ place f known listing. (c.loop-each.invariant.counts place f known listing).0
