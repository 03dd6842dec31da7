use Rattle.std.proofs.Common.{None, refl}
use Rattle.expire_make.specs.Unneeded.{Forgets}
use Rattle.base_devices.proofs.Steps.{same_changes}
use Rattle.expire_make.proofs.Losses.{takes_none}
use Rattle.expire_make.proofs.Counts.{counted_none, counted_one}
use Rattle.expire_make.proofs.Removals.{removed_takes, absent_new}
use Rattle.expire_make.proofs.log_folders.remove_one.Goals as goal

pub returns-in_err-remove-clause-takes : goal.returns-in_err-remove-clause-takes
returns-in_err-remove-clause-takes g c = removed_takes c.remove.result (Forgets c.args.prefix.now c.args.kept.now) c.args.name.now _ _ (c.is_unneeded.ensures.yes c.if-is_unneeded.true) c.remove.ensures.works c.remove.ensures.now

pub returns-then-is_unneeded-clause-takes : goal.returns-then-is_unneeded-clause-takes
returns-then-is_unneeded-clause-takes g c = removed_takes c.remove.result (Forgets c.args.prefix.now c.args.kept.now) c.args.name.now _ _ (c.is_unneeded.ensures.yes c.if-is_unneeded.true) c.remove.ensures.works c.remove.ensures.now

pub returns-then-is_unneeded-clause-gone : goal.returns-then-is_unneeded-clause-gone
returns-then-is_unneeded-clause-gone g c = λ stanza prefix_is off. absent_new c.args.name.now _ _ c.in_ok-remove.ensures.now

pub returns-clause-takes : goal.returns-clause-takes
returns-clause-takes g c = takes_none (Forgets c.args.prefix.now c.args.kept.now) _

pub returns-clause-gone : goal.returns-clause-gone
returns-clause-gone g c = λ stanza prefix_is off. absurd (c.is_unneeded.ensures.no c.if-is_unneeded.false stanza prefix_is off)

pub returns-in_err-remove-clause-others : goal.returns-in_err-remove-clause-others
returns-in_err-remove-clause-others g c = same_changes c.remove.result c.args.name.now None _ _ c.remove.ensures.now

pub returns-then-is_unneeded-clause-others : goal.returns-then-is_unneeded-clause-others
returns-then-is_unneeded-clause-others g c = same_changes c.remove.result c.args.name.now None _ _ c.remove.ensures.now

pub returns-then-is_unneeded-clause-counts : goal.returns-then-is_unneeded-clause-counts
returns-then-is_unneeded-clause-counts g c = λ there. counted_one (Forgets c.args.prefix.now c.args.kept.now) _ _ c.args.name.now (c.is_unneeded.ensures.yes c.if-is_unneeded.true) there c.in_ok-remove.ensures.now

pub returns-clause-counts : goal.returns-clause-counts
returns-clause-counts g c = λ there. counted_none (Forgets c.args.prefix.now c.args.kept.now) _ _ refl
