use Rattle.std.proofs.Common.{◌≡◌}
use Rattle.base_sample.specs.Bytes.{pattern}
use Rattle.base_sample.proofs.values.bytes.pattern.Given as goal

abbrev pub invariant-loop-j : goal.invariant-loop-j
invariant-loop-j l = l.bytes.items ≡ pattern l.place l.j
