-- The statuses of a drain that is refused.
use Rattle.std.proofs.Common.{◌≡◌, ◌≢◌, ◌⊎◌, ◌≤◌, inl, inr, true, refl, arith}
use Rattle.cmd_archive_push.specs.declared.fault.PushFault.{PushFault}
use Rattle.cmd_archive_push.specs.declared.fault.PushFault.TheVariants.{SegmentName, PathOutside, StanzaMismatch, SegmentMissing, TooLong, HeaderForm, SegmentSize, HeaderMismatch, Ambiguous, Duplicate}
use Rattle.cmd_archive_push_async.specs.Drained.{drain_early, drain_status}

-- the current cluster is another one; or the refusal comes after files that were stored
pub drain_is : (e : PushFault) → ((drain_status e ≡ 23) × (drain_early e ≡ true)) ⊎ ((74 ≤ drain_status e) × (drain_status e ≤ 75))
drain_is (StanzaMismatch kept found) = inl (refl, refl)
drain_is (SegmentName name) = inr (omega arith, omega arith)
drain_is (PathOutside path) = inr (omega arith, omega arith)
drain_is (SegmentMissing path) = inr (omega arith, omega arith)
drain_is (TooLong name limit) = inr (omega arith, omega arith)
drain_is (HeaderForm info) = inr (omega arith, omega arith)
drain_is (SegmentSize known found) = inr (omega arith, omega arith)
drain_is (HeaderMismatch kept found) = inr (omega arith, omega arith)
drain_is (Ambiguous first second) = inr (omega arith, omega arith)
drain_is (Duplicate kept found) = inr (omega arith, omega arith)
