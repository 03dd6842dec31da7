use Rattle.std.proofs.Common.{◌≡◌, false, Bool, map, ap, ◌∙◌, sym, subst}
use Rattle.std.specs.Prelude.{not}
use Rattle.std.proofs.lemmas.Bool.{false≢true}
use Rattle.base_model.specs.Values.{entry_of}
use Rattle.repo_names.proofs.LabelTexts.{label_text-injective}
use Rattle.expire_rules.specs.Labels.{has_label, labels_of}
use Rattle.expire_make.proofs.labels.is_unlisted.Goals as goal

pub returns-in-Some-clause-no : goal.returns-in-Some-clause-no
returns-in-Some-clause-no c = λ off text.
    let same = label_text-injective c.in-Some.label text.label c.in-Some.ensures.value.0 text.is_label (sym c.in-Some.ensures.value.1 ∙ text.text_is) in
    let listed : c.lists.result ≡ false = c.lists.ensures ∙ ap (has_label (labels_of (map entry_of c.args.entries.now))) same ∙ text.not_listed in
    false≢true (sym (subst (λ (b : Bool). not b ≡ false) listed off))
