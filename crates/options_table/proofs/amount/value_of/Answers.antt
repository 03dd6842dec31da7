use Rattle.std.proofs.Common.{◌≡◌, ◌<◌, ℕ, None, arith, Option, if◌then◌else◌, Some, nat_le}
use Rattle.std.proofs.lemmas.Bool.Decides.{nat_tests}
use Rattle.options_table.specs.Amounts.{value_from}
use Rattle.options_table.proofs.Numbers.{too_large}
use Rattle.options_table.proofs.amount.value_of.Goals as goal

none : (m x : ℕ) → m < x → ◌≡◌ {A = Option ℕ} None (if nat_le x m then Some x else None)
none m x h = grind (arith, nat_tests)

pub returns-then-next-gt18446744073709551615 : goal.returns-then-next-gt18446744073709551615
returns-then-next-gt18446744073709551615 c =
    none 18446744073709551615 (value_from 0 c.args.digits.now) (too_large 18446744073709551615 c.loop-d.n c.loop-d.d-index c.args.digits.now (omega arith) c.loop-d.invariant.value (omega arith))
