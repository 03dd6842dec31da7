use Rattle.std.proofs.Common.{map, subst, sym}
use Rattle.base_model.specs.Text.{Text}
use Rattle.base_model.specs.Values.{entry_of}
use Rattle.expire_rules.specs.Labels.{labels_of}
use Rattle.expire_make.specs.Losing.{IsTextUnlisted, IsUnlisted}
use Rattle.expire_make.proofs.Losses.{takes_none}
use Rattle.expire_make.proofs.Droppings.{unlisted_takes}
use Rattle.expire_make.proofs.unlisted_folders.drop_one.Goals as goal

pub returns-in_err-drop_below-clause-takes : goal.returns-in_err-drop_below-clause-takes
returns-in_err-drop_below-clause-takes g c = unlisted_takes c.args.stanza.now (labels_of (map entry_of c.args.entries.now)) _ _ c.as_bytes.ensures.value (c.is_unlisted.ensures.yes c.if-is_unlisted.true) _ _ c.drop_below.ensures.takes

pub returns-then-is_unlisted-clause-takes : goal.returns-then-is_unlisted-clause-takes
returns-then-is_unlisted-clause-takes g c = unlisted_takes c.args.stanza.now (labels_of (map entry_of c.args.entries.now)) _ _ c.as_bytes.ensures.value (c.is_unlisted.ensures.yes c.if-is_unlisted.true) _ _ c.drop_below.ensures.takes

pub returns-clause-takes : goal.returns-clause-takes
returns-clause-takes g c = takes_none (IsUnlisted c.args.stanza.now (labels_of (map entry_of c.args.entries.now))) _

pub returns-then-is_unlisted-clause-gone : goal.returns-then-is_unlisted-clause-gone
returns-then-is_unlisted-clause-gone g c = λ off. c.in_ok-drop_below.ensures.gone

pub returns-clause-gone : goal.returns-clause-gone
returns-clause-gone g c = λ off. absurd (c.is_unlisted.ensures.no c.if-is_unlisted.false (subst (λ (t : Text). IsTextUnlisted (labels_of (map entry_of c.args.entries.now)) t) (sym c.as_bytes.ensures.value) off))
