use Rattle.std.proofs.Common.{◌+◌, ◌-◌, ◌≡◌, ◌≤◌, length}
use Rattle.sha1.specs.Sha1.{Holds}
use Rattle.base_model.specs.Text.{Text}
use Rattle.archive_store.specs.ByteSource.{IsReadTo}
use Rattle.archive_store.proofs.stream_sum.sum_of.Given as goal

abbrev pub invariant-loop-count : goal.invariant-loop-count
invariant-loop-count g l = let P = g.P.ByteSource in record {
  same : P.same l.fn.device l.device;
  later : P.faults l.fn.device ≤ P.faults l.device;
  so_far : (bytes : Text) × IsReadTo (P.bytes l.pieces l.fn.device) l.prefix.bytes.now bytes × (length bytes ≡ l.count) × Holds l.digest bytes;
}

abbrev pub decreases-loop-count : goal.decreases-loop-count
decreases-loop-count g l = l.prefix.length + 1 - l.count
