use Rattle.std.proofs.Common.{◌≡◌, ◌++◌, ◌+◌, ◌<◌, ◌^◌, drop}
use Rattle.backup_sink.specs.Keeping.{total}
use Rattle.backup_record.specs.Sums.{sums}
use Rattle.backup_record.proofs.places.sums_of.Given as goal

abbrev pub invariant-loop-e : goal.invariant-loop-e
invariant-loop-e l = record {
  sums : l.places.items ++ sums l.at (drop l.e-index l.ended) ≡ sums 0 l.ended;
  within : l.at + total (drop l.e-index l.ended) < 2 ^ 64;
}
