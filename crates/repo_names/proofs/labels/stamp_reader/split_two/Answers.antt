use Rattle.std.proofs.Common.{◌≡◌, ◌+◌, ◌/◌, ◌%◌, ◌∷◌, sym, ◌∙◌, arith}
use Rattle.repo_names.proofs.labels.stamp_reader.split_two.Goals as goal

pub returns-in_err-units-clause-none : goal.returns-in_err-units-clause-none
returns-in_err-units-clause-none c =
    rw c.from_residual-in_err-units.ensures (λ n rest h e.
    let whole : (48 + c.in_ok-tens.tens) ∷ c.in_ok-tens.rest.now ≡ (48 + n / 10) ∷ (48 + n % 10) ∷ rest = sym c.in_ok-tens.ensures.value.1 ∙ e in
    let following : c.in_ok-tens.rest.now ≡ (48 + n % 10) ∷ rest = cc in
    c.in_err-units.ensures.none (n % 10) rest (omega arith) following)
