use Rattle.std.proofs.Common.{None, sym, ap, ◌∙◌}
use Rattle.base_model.specs.declared.labels.Label.{Label}
use Rattle.repo_names.proofs.LabelTexts.{label_text-injective}
use Rattle.restore_target.proofs.moments.split_written.Goals as goal

pub returns-in_err-digits-clause-none : goal.returns-in_err-digits-clause-none
returns-in_err-digits-clause-none c = rw c.from_residual.ensures (λ t rest h e. c.in_err-digits.ensures.none t rest e)

pub returns-in_err-label-clause-none : goal.returns-in_err-label-clause-none
returns-in_err-label-clause-none c =
    rw c.from_residual-in_err-label.ensures (λ t rest h e.
    let digits = c.in_ok-digits.ensures.digits t rest e in
    c.in_err-label.ensures.none (record { full = t; later = None }) (record { full = h; later = tt }) digits)

pub returns-in-Some-clause-none : goal.returns-in-Some-clause-none
returns-in-Some-clause-none c t rest h e =
    let digits = c.in_ok-digits.ensures.digits t rest e in
    let is = c.in_ok-label.ensures.value in
    let full : Label = record { full = t; later = None } in
    let same = label_text-injective c.in_ok-label.label full is.0 (record { full = h; later = tt }) (sym is.1 ∙ digits) in
    cc (sym c.in-Some.is ∙ ap (λ (l : Label). l.later) same)
