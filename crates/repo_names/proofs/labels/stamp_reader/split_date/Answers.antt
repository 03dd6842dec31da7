use Rattle.std.proofs.Common.{◌++◌, sym, ◌∙◌}
use Rattle.base_model.specs.Dates.{two}
use Rattle.repo_names.specs.Calendar.{parts_of}
use Rattle.repo_names.proofs.StampTexts.{same_year, same_two, digits_civil, no_date}
use Rattle.repo_names.proofs.labels.stamp_reader.split_date.Goals as goal

pub returns-in_err-month-clause-none : goal.returns-in_err-month-clause-none
returns-in_err-month-clause-none c =
    rw c.from_residual-in_err-month.ensures (λ d rest h e.
    let p = parts_of d in
    let digits = digits_civil d h in
    let year = same_year c.in_ok-year.year p.year c.in_ok-year.rest.now (two p.month ++ (two p.day ++ rest)) c.in_ok-year.ensures.value.0 digits.year (sym c.in_ok-year.ensures.value.1 ∙ e) in
    c.in_err-month.ensures.none p.month (two p.day ++ rest) digits.month year.1)

pub returns-in_err-day-clause-none : goal.returns-in_err-day-clause-none
returns-in_err-day-clause-none c =
    rw c.from_residual-in_err-day.ensures (λ d rest h e.
    let p = parts_of d in
    let digits = digits_civil d h in
    let year = same_year c.in_ok-year.year p.year c.in_ok-year.rest.now (two p.month ++ (two p.day ++ rest)) c.in_ok-year.ensures.value.0 digits.year (sym c.in_ok-year.ensures.value.1 ∙ e) in
    let month = same_two c.in_ok-month.month p.month c.in_ok-month.rest.now (two p.day ++ rest) c.in_ok-month.ensures.value.0 digits.month (sym c.in_ok-month.ensures.value.1 ∙ year.1) in
    c.in_err-day.ensures.none p.day rest digits.day month.1)

pub returns-in_err-date-clause-none : goal.returns-in_err-date-clause-none
returns-in_err-date-clause-none c =
    rw c.from_residual-in_err-date.ensures (λ d rest h e.
    let p = parts_of d in
    let digits = digits_civil d h in
    let year = same_year c.in_ok-year.year p.year c.in_ok-year.rest.now (two p.month ++ (two p.day ++ rest)) c.in_ok-year.ensures.value.0 digits.year (sym c.in_ok-year.ensures.value.1 ∙ e) in
    let month = same_two c.in_ok-month.month p.month c.in_ok-month.rest.now (two p.day ++ rest) c.in_ok-month.ensures.value.0 digits.month (sym c.in_ok-month.ensures.value.1 ∙ year.1) in
    let day = same_two c.in_ok-day.day p.day c.in_ok-day.rest.now rest c.in_ok-day.ensures.value.0 digits.day (sym c.in_ok-day.ensures.value.1 ∙ month.1) in
    no_date d h c.in_ok-year.year c.in_ok-month.month c.in_ok-day.day year.0 month.0 day.0 c.in_err-date.ensures.none)
