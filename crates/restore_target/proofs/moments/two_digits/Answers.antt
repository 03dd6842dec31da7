use Rattle.std.proofs.Common.{◌≡◌, ◌+◌, ◌/◌, ◌%◌, arith}
use Rattle.restore_target.proofs.moments.two_digits.Goals as goal

pub returns-in_err-tens-clause-none : goal.returns-in_err-tens-clause-none
returns-in_err-tens-clause-none c =
    rw c.from_residual.ensures (λ n h e.
    let tens : c.args.tens ≡ 48 + n / 10 = cc in
    c.in_err-tens.ensures.none (n / 10) (omega (arith, h)) tens)

pub returns-in_err-units-clause-none : goal.returns-in_err-units-clause-none
returns-in_err-units-clause-none c =
    rw c.from_residual-in_err-units.ensures (λ n h e.
    let units : c.args.units ≡ 48 + n % 10 = cc in
    c.in_err-units.ensures.none (n % 10) (omega (arith, h)) units)
