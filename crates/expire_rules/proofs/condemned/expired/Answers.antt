use Rattle.std.proofs.Common.{List, map, not, ◌++◌, ◌∙◌, ap, sym}
use Rattle.std.specs.Prelude.{filter}
use Rattle.base_model.specs.declared.labels.Label.{Label}
use Rattle.base_model.specs.Values.{Entry, entry_of}
use Rattle.expire_rules.specs.Labels.{has_label, labels_of}
use Rattle.expire_rules.specs.Condemned.{diffs_gone, condemned_labels}
use Rattle.expire_rules.proofs.Joined.{condemned_are, if_ok_on}
use Rattle.expire_rules.proofs.Lines.{descends}
use Rattle.expire_rules.proofs.condemned.expired.Goals as goal

pub returns-clause-condemned : goal.returns-clause-condemned
returns-clause-condemned c =
    let es = map entry_of c.args.entries.now in
    let diffs_are = c.in_ok-diffs.ensures ∙ ap (λ (ls : List Label). labels_of (diffs_gone c.args.rules.now.diff (filter (λ e. not (has_label ls e.label)) es))) c.deref.ensures.value in
    let both_are = c.in_ok-both.ensures ∙ ap (λ (ls : List Label). c.in_ok-full.full.items ++ ls) c.deref-2.ensures.value in
    let are = condemned_are c.args.rules.now c.args.moment es c.in_ok-known.known.items c.in_ok-full.full.items c.in_ok-diffs.diffs.items c.in_ok-both.both.items c.in_ok-gone.gone.items c.in_ok-known.ensures c.in_ok-full.ensures diffs_are both_are c.in_ok-gone.ensures in
    if_ok_on c.listed_among.result _ _ (λ labels is. is ∙ ap (λ (ls : List Label). filter (has_label ls) (labels_of es)) c.deref-3.ensures.value ∙ are) c.listed_among.ensures

pub returns-clause-descends : goal.returns-clause-descends
returns-clause-descends c = if_ok_on c.listed_among.result _ _ (λ labels are backups listed line. descends c.args.rules.now c.args.moment backups line labels.items (are ∙ ap (λ (es : List Entry). condemned_labels c.args.rules.now c.args.moment es) (sym listed))) (returns-clause-condemned c)
