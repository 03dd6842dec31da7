use Rattle.expire_rules.proofs.Depending.{IsOnTheWay}
use Rattle.expire_rules.proofs.dependents.with_dependents.Given as goal

abbrev pub invariant-loop-entry : goal.invariant-loop-entry
invariant-loop-entry l = IsOnTheWay l.initial.labels.items l.labels.items l.entries l.entry-index
