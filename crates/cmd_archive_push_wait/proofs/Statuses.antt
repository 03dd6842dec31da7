-- Within which bounds the statuses of refusals lie.
use Rattle.std.proofs.Common.{◌≡◌, ◌≤◌, ◌⊎◌, inl, inr, refl, arith}
use Rattle.cmd_archive_push_wait.specs.declared.fault.QueueFault.{QueueFault}
use Rattle.cmd_archive_push_wait.specs.declared.fault.QueueFault.TheVariants.{SegmentMissing, TooLong, Reported, NotYet}
use Rattle.cmd_archive_push_wait.specs.Texts.{queue_status}

pub queue_within : (fault : QueueFault) → (2 ≤ queue_status fault) × ((queue_status fault ≤ 46) ⊎ (queue_status fault ≡ 70))
queue_within (SegmentMissing path) = (omega arith, inl (omega arith))
queue_within (TooLong name limit) = (omega arith, inr refl)
queue_within (Reported code text) = (omega arith, inl (omega arith))
queue_within (NotYet turns) = (omega arith, inl (omega arith))
