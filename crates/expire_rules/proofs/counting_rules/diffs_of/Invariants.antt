use Rattle.std.proofs.Common.{◌≡◌, take}
use Rattle.expire_rules.specs.Known.{diffs_marked}
use Rattle.expire_rules.proofs.counting_rules.diffs_of.Given as goal

abbrev pub invariant-loop-mark : goal.invariant-loop-mark
invariant-loop-mark l = l.labels.items ≡ diffs_marked (take l.mark-index l.marks)
