use Rattle.std.proofs.Common.{◌≡◌, ◌≤◌, ◌-◌, length, vec_len, Option}
use Rattle.base_devices.specs.Streams.{Gives}
use Rattle.base_model.specs.Text.{Text}
use Rattle.worker_process.proofs.receiving.read_to.Given as goal

abbrev pub invariant-loop-bytes : goal.invariant-loop-bytes
invariant-loop-bytes g l = let I = g.I.InputFiles in record {
  long : length l.room ≡ length l.fn.room;
  within : vec_len l.bytes ≤ l.wanted;
  later : (I.state l.fn.input).faults ≤ (I.state l.input).faults;
  given : (total : Option Text) → Gives total l.fn.bytes.items (I.state l.fn.input).left → Gives total l.bytes.items (I.state l.input).left;
}

abbrev pub decreases-loop-bytes : goal.decreases-loop-bytes
decreases-loop-bytes g l = l.wanted - vec_len l.bytes
