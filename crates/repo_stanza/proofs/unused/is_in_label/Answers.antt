use Rattle.std.proofs.Common.{◌∙◌, sym}
use Rattle.repo_stanza.proofs.Leftovers.{unstripped_label, no_folder, in_label_of, not_in_label}
use Rattle.repo_stanza.proofs.unused.is_in_label.Goals as goal

pub returns-in_default-clause-other : goal.returns-in_default-clause-other
returns-in_default-clause-other c = λ off stanza is. unstripped_label stanza c.args.prefix.now c.args.path.now is c.in_default.ensures.cases

pub returns-in-Some-first_element-clause-within : goal.returns-in-Some-first_element-clause-within
returns-in-Some-first_element-clause-within c = λ on stanza is.
    let cut = c.in-Some-first_element.ensures.value in
    in_label_of stanza c.args.prefix.now c.args.path.now is c.in-Some.below.now c.in-Some.ensures.cases.0 c.in-Some.ensures.cases.1
    c.read_label.result c.in-Some-first_element.folder.now cut.1.0 cut.1.1 c.read_label.ensures.value (sym c.is_some.ensures ∙ on)

pub returns-in-Some-first_element-clause-other : goal.returns-in-Some-first_element-clause-other
returns-in-Some-first_element-clause-other c = λ off stanza is.
    let cut = c.in-Some-first_element.ensures.value in
    not_in_label stanza c.args.prefix.now c.args.path.now is c.in-Some.below.now c.in-Some.ensures.cases.0 c.in-Some.ensures.cases.1
    c.read_label.result c.in-Some-first_element.folder.now cut.1.0 cut.0 cut.1.1 c.read_label.ensures.none (sym c.is_some.ensures ∙ off)

pub returns-in-None-clause-other : goal.returns-in-None-clause-other
returns-in-None-clause-other c = λ off stanza is.
    no_folder stanza c.args.prefix.now c.args.path.now is c.in-Some.below.now c.in-Some.ensures.cases.0 c.in-Some.ensures.cases.1 c.in-None.ensures.none
