use Rattle.std.proofs.Common.{arith, sym, ◌∙◌}
use Rattle.restore_target.proofs.Numbers.{transaction}
use Rattle.restore_target.proofs.targets.is_transaction.Goals as goal

pub returns-in-Some : goal.returns-in-Some
returns-in-Some c =
    rw c.from.ensures (transaction c.args.text.now c.in-Some.number (omega arith) (sym c.as_bytes.ensures.value ∙ c.in-Some.ensures.value))
