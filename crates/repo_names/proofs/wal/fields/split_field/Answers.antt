use Rattle.std.proofs.Common.{take, length, ap, ◌∙◌, arith, length-append}
use Rattle.base_model.specs.Text.{hex_upper}
use Rattle.repo_names.proofs.Digits.{length-hex_upper, take-hex_upper}
use Rattle.repo_names.proofs.wal.fields.split_field.Goals as goal

pub returns-in_err-digits-clause-none : goal.returns-in_err-digits-clause-none
returns-in_err-digits-clause-none c =
    let short = c.in_err-digits.ensures in
    rw c.from_residual.ensures (λ n rest e. omega (arith, ap length e, length-append (hex_upper 8 n) rest, length-hex_upper 8 n))

pub returns-in_err-read_field-clause-none : goal.returns-in_err-read_field-clause-none
returns-in_err-read_field-clause-none c =
    let whole = c.in_ok-digits.ensures in
    rw c.from_residual-in_err-read_field.ensures (λ n rest e. c.in_err-read_field.ensures.none n (whole.cases.1 ∙ ap (take 8) e ∙ take-hex_upper n rest))
