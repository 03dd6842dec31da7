use Rattle.std.proofs.Common.{◌≡◌, ◌∙◌, rules, List, Bool, true, Option, Some, inl, inr, sym, ap, subst}
use Rattle.std.specs.List.{list_any}
use Rattle.base_model.specs.declared.wal.WalPart.{WalPart}
use Rattle.restore_target.specs.declared.history.Ancestor.{Ancestor}
use Rattle.restore_choice.specs.declared.ancestry.Ancestry as rust
use Rattle.restore_choice.specs.Choosing.{is_within}
use Rattle.restore_choice.proofs.Ancestors.{on_either}
use Rattle.restore_choice.proofs.qualifying.is_on.Goals as goal

pub returns-else-part-ancestry : goal.returns-else-part-ancestry
returns-else-part-ancestry c =
    let other = c.if-part-ancestry.false in
    let is : c.is_on_ancestor.result ≡ list_any (is_within c.in-Some-log.part) c.in-Some.ancestry.ancestors.items = c.is_on_ancestor.ensures ∙ ap (list_any (is_within c.in-Some-log.part)) c.deref.ensures.value in
    on_either c.args.ancestry.now c.args.log c.in-Some.ancestry c.in-Some-log.part c.in-Some.is c.in-Some-log.is other c.is_on_ancestor.result is
