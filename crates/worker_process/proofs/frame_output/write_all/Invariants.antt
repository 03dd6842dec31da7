use Rattle.std.proofs.Common.{◌≤◌, ◌-◌, length, take}
use Rattle.worker_process.specs.Writing.{IsWritten}
use Rattle.worker_process.proofs.frame_output.write_all.Given as goal

abbrev pub invariant-loop-at : goal.invariant-loop-at
invariant-loop-at g l = let O = g.O.OutputStream in record {
  within : l.at ≤ length l.bytes;
  written : IsWritten (O.state l.fn.out).written (take l.at l.bytes) (O.state l.out).written;
  later : (O.state l.fn.out).faults ≤ (O.state l.out).faults;
}

abbrev pub decreases-loop-at : goal.decreases-loop-at
decreases-loop-at g l = length l.bytes - l.at
