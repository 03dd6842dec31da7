use Rattle.std.proofs.Common.{◌≡◌, ◌<◌, ◌≤◌, ◌-◌, ◌^◌, length, vec_len, Some}
use Rattle.base_devices.specs.Streams.{Gives}
use Rattle.base_model.specs.Text.{Text}
use Rattle.worker_process.specs.Receiving.{size_known}
use Rattle.worker_process.proofs.receiving.receive_frame.Given as goal

abbrev pub invariant-stages : goal.invariant-stages
invariant-stages g l = let I = g.I.InputFiles in record {
  long : length l.room ≡ length l.fn.room;
  more : vec_len l.bytes < l.wanted;
  least : 5 ≤ l.wanted;
  most : l.wanted < 2 ^ 33;
  later : (I.state l.fn.input).faults ≤ (I.state l.input).faults;
  given : Gives (I.state l.fn.input).left l.bytes.items (I.state l.input).left;
  within : (rest : Text) → (I.state l.fn.input).left ≡ Some rest → l.wanted ≤ size_known rest;
}

abbrev pub decreases-stages : goal.decreases-stages
decreases-stages g l = 2 ^ 33 - l.wanted
