use Rattle.std.proofs.Common.{◌≡◌, ◌<◌, ◌^◌, drop}
use Rattle.options_table.specs.Amounts.{value_from}
use Rattle.options_table.proofs.amount.value_of.Given as goal

abbrev pub invariant-loop-d : goal.invariant-loop-d
invariant-loop-d l = record {
  small : l.n < 2 ^ 64;
  value : value_from l.n (drop l.d-index l.digits) ≡ value_from 0 l.digits;
}
