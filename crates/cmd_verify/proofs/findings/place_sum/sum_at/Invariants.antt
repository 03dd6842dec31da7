use Rattle.std.proofs.Common.{◌-◌, ◌≡◌, ◌≤◌, length}
use Rattle.sha1.specs.Sha1.{Holds}
use Rattle.base_model.specs.Text.{Text}
use Rattle.base_devices.specs.States.{OnlyReads}
use Rattle.cmd_verify.proofs.Pieces.{IsRead}
use Rattle.cmd_verify.proofs.findings.place_sum.sum_at.Given as goal

abbrev pub invariant-loop-count : goal.invariant-loop-count
invariant-loop-count g l = let D = g.D.Disk in record {
  looks : OnlyReads (D.state l.fn.d) (D.state l.d);
  within : l.count ≤ l.size;
  so_far : (bytes : Text) × (length bytes ≡ l.count) × Holds l.digest bytes × IsRead (D.state l.fn.d).view.now l.name l.at bytes l.count;
}

abbrev pub decreases-loop-count : goal.decreases-loop-count
decreases-loop-count g l = l.size - l.count
