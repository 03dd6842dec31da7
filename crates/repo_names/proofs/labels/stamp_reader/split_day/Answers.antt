use Rattle.std.proofs.Common.{◌++◌, sym, ap, ◌∙◌}
use Rattle.base_model.specs.Dates.{date_digits, date_after}
use Rattle.repo_names.specs.Calendar.{parts_of}
use Rattle.repo_names.proofs.Dates.{date_of_day}
use Rattle.repo_names.proofs.StampTexts.{same_date, digits_civil, digits_of_day, civil_of_day, day_of_parts}
use Rattle.repo_names.proofs.labels.stamp_reader.split_day.Goals as goal

pub returns-in_err-date-clause-none : goal.returns-in_err-date-clause-none
returns-in_err-date-clause-none c =
    rw c.from_residual.ensures (λ n rest h e.
    let (d, from, is) = civil_of_day n h in
    c.in_err-date.ensures.none d rest from (e ∙ ap (λ p. date_digits p ++ rest) (sym is)))

pub returns-in_err-days-clause-none : goal.returns-in_err-days-clause-none
returns-in_err-days-clause-none c =
    rw c.from_residual-in_err-days.ensures (λ n rest h e.
    let d = c.in_ok-date.date in
    let is = c.in_ok-date.ensures.value in
    let same = same_date (parts_of d) (date_after n) c.in_ok-date.rest.now rest (digits_civil d is.0) (digits_of_day n h) (sym is.1 ∙ e) in
    c.in_err-days.ensures.none n (day_of_parts n h d is.0 same.0))

pub returns-clause-value : goal.returns-clause-value
returns-clause-value c =
    let n = c.in_ok-days.days in
    let found = c.in_ok-days.ensures.value in
    (found.0, c.in_ok-date.ensures.value.1 ∙ ap (λ p. date_digits p ++ c.in_ok-date.rest.now) (date_of_day n found.0 c.in_ok-date.date found.1))
