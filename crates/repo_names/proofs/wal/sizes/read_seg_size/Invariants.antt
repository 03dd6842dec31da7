use Rattle.std.proofs.Common.{◌≢◌, ℕ, ◌<◌, ◌≤◌, ◌^◌}
use Rattle.repo_names.proofs.wal.sizes.read_seg_size.Given as goal

abbrev pub invariant-loop-exponent : goal.invariant-loop-exponent
invariant-loop-exponent l = (k : ℕ) → 20 ≤ k → k < l.exponent → l.bytes ≢ 2 ^ k
