use Rattle.std.proofs.Common.{◌≡◌, ◌++◌, map, drop, ◌<◌, ◌^◌}
use Rattle.std.specs.List.{AllByRecursion}
use Rattle.backup_sink.specs.Keeping.{total}
use Rattle.backup_record.specs.Sums.{sums}
use Rattle.backup_record.proofs.places.places_of.Given as goal

abbrev pub invariant-loop-ended : goal.invariant-loop-ended
invariant-loop-ended l = record {
  sums : map (λ v. v.items) l.places.items ++ map (sums 0) (map (λ v. v.items) (drop l.ended-index l.ends)) ≡ map (sums 0) (map (λ v. v.items) l.ends);
  few : AllByRecursion (λ es. total es < 2 ^ 64) (map (λ v. v.items) (drop l.ended-index l.ends));
}
