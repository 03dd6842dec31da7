use Rattle.std.proofs.Common.{◌≡◌, ◌-◌, ◌≤◌}
use Rattle.worker_protocol.specs.Views.{items_of, rest_of}
use Rattle.worker_protocol.specs.Reading.{items_at}
use Rattle.worker_protocol.proofs.Loop.{with_prefix}
use Rattle.worker_protocol.proofs.frames.frame_reader.items_of.Given as goal

abbrev pub invariant-loop : goal.invariant-loop
invariant-loop l = record {
  value : with_prefix (items_of l.items.items) (items_at (l.count - l.counter) l.end (rest_of l.here)) ≡ items_at l.count l.end (rest_of l.rest);
  left : l.here.left ≤ l.end;
}
