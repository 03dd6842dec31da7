use Rattle.std.proofs.Common.{◌≡◌, ◌≤◌, ◌+◌, ◌-◌, ◌⊎◌, vec_len, take, length}
use Rattle.std.specs.Prelude.{IfSome, IsSomeAnd}
use Rattle.base_devices.specs.Moments.{LeavesNoMore}
use Rattle.base_disk.proofs.whole_read.read_whole.Given as goal

abbrev pub invariant-loop-buf : goal.invariant-loop-buf
invariant-loop-buf g l = let D = g.D.Disk in record {
  now : (D.state l.d).view.now ≡ (D.state l.fn.d).view.now;
  time : LeavesNoMore (D.state l.fn.d).view (D.state l.d).view;
  place : (D.state l.d).opened ≡ (D.state l.fn.d).opened;
  proper : (D.state l.d).faulty_calls ≡ (D.state l.fn.d).faulty_calls;
  later : (D.state l.fn.d).faults ≤ (D.state l.d).faults;
  prefix : vec_len l.bytes ≡ 0 ⊎ IfSome (D.state l.fn.d).view.now (λ f. IsSomeAnd (f l.name) (λ b. (vec_len l.bytes ≤ length b) × (l.bytes.items ≡ take (vec_len l.bytes) b)));
}

abbrev pub decreases-loop-buf : goal.decreases-loop-buf
decreases-loop-buf g l = l.limit + 1 - vec_len l.bytes
