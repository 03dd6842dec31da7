use Rattle.std.proofs.Common.{◌≡◌, ◌/◌, ◌%◌, ◌∷◌, ◌++◌, sym, ap, ◌∙◌, arith}
use Rattle.base_model.specs.Dates.{date_digits, clock_digits, date_after}
use Rattle.repo_names.proofs.StampTexts.{same_date, digits_of_day, stamp_parts, stamp_of}
use Rattle.repo_names.proofs.labels.stamp_reader.split_stamp.Goals as goal

pub returns-in_err-days-clause-none : goal.returns-in_err-days-clause-none
returns-in_err-days-clause-none c =
    rw c.from_residual.ensures (λ t rest h e. c.in_err-days.ensures.none (t / 86400) (45 ∷ (clock_digits (t % 86400) ++ rest)) (omega arith) (e ∙ stamp_parts t rest))

pub returns-in_err-rest-clause-none : goal.returns-in_err-rest-clause-none
returns-in_err-rest-clause-none c =
    rw c.from_residual-in_err-rest.ensures (λ t rest h e.
    let following = clock_digits (t % 86400) ++ rest in
    let is = c.in_ok-days.ensures.value in
    let day = same_date (date_after c.in_ok-days.days) (date_after (t / 86400)) c.in_ok-days.rest.now (45 ∷ following) (digits_of_day c.in_ok-days.days is.0) (digits_of_day (t / 86400) (omega arith)) (sym is.1 ∙ e ∙ stamp_parts t rest) in
    c.in_err-rest.ensures.none following day.1)

pub returns-in_err-clock-clause-none : goal.returns-in_err-clock-clause-none
returns-in_err-clock-clause-none c =
    rw c.from_residual-in_err-clock.ensures (λ t rest h e.
    let following = clock_digits (t % 86400) ++ rest in
    let is = c.in_ok-days.ensures.value in
    let day = same_date (date_after c.in_ok-days.days) (date_after (t / 86400)) c.in_ok-days.rest.now (45 ∷ following) (digits_of_day c.in_ok-days.days is.0) (digits_of_day (t / 86400) (omega arith)) (sym is.1 ∙ e ∙ stamp_parts t rest) in
    let dash = sym c.in_ok-rest.ensures.value ∙ day.1 in
    let clock : c.in_ok-rest.rest.now ≡ following = cc in
    c.in_err-clock.ensures.none (t % 86400) rest (omega arith) clock)

pub returns-clause-value : goal.returns-clause-value
returns-clause-value c =
    let days = c.in_ok-days.days in
    let clock = c.in_ok-clock.clock in
    let rest = c.in_ok-clock.rest.now in
    let date = c.in_ok-days.ensures.value in
    let time = c.in_ok-clock.ensures.value in
    let dash = c.in_ok-rest.ensures.value ∙ ap (λ r. 45 ∷ r) time.1 in
    (omega (arith, date.0, time.0), date.1 ∙ ap (λ r. date_digits (date_after days) ++ r) dash ∙ stamp_of days clock rest time.0)
