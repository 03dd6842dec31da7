use Rattle.std.proofs.Common.{◌/◌, ◌%◌, ◌++◌, sym, ◌∙◌, arith}
use Rattle.base_model.specs.Dates.{two}
use Rattle.repo_names.proofs.StampTexts.{same_two}
use Rattle.repo_names.proofs.labels.stamp_reader.split_clock.Goals as goal

pub returns-in_err-second-clause-none : goal.returns-in_err-second-clause-none
returns-in_err-second-clause-none c =
    rw c.from_residual-in_err-second.ensures (λ n rest h e.
    let last = two (n % 60) ++ rest in
    let hour = same_two c.in_ok-hour.hour (n / 3600) c.in_ok-hour.rest.now (two (n % 3600 / 60) ++ last) c.in_ok-hour.ensures.value.0 (omega arith) (sym c.in_ok-hour.ensures.value.1 ∙ e) in
    let minute = same_two c.in_ok-minute.minute (n % 3600 / 60) c.in_ok-minute.rest.now last c.in_ok-minute.ensures.value.0 (omega arith) (sym c.in_ok-minute.ensures.value.1 ∙ hour.1) in
    c.in_err-second.ensures.none (n % 60) rest (omega arith) minute.1)
