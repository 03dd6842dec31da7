use Rattle.std.proofs.Common.{◌≡◌, ◌≤◌}
use Rattle.std.specs.Prelude.{IfSome}
use Rattle.base_devices.specs.Moments.{LeavesNoMore}
use Rattle.archive_lookup.proofs.Bounding.{HasNoneBefore}
use Rattle.archive_lookup.proofs.stored.bounds.of_first.Given as goal

abbrev pub invariant-loop-folder : goal.invariant-loop-folder
invariant-loop-folder g l = let D = g.D.Disk in record {
  none : IfSome (D.state l.fn.d).view.now (λ f. HasNoneBefore l.stanza l.id f l.folders l.folder-index);
  now : (D.state l.d).view.now ≡ (D.state l.fn.d).view.now;
  time : LeavesNoMore (D.state l.fn.d).view (D.state l.d).view;
  place : (D.state l.d).opened ≡ (D.state l.fn.d).opened;
  proper : (D.state l.d).faulty_calls ≡ (D.state l.fn.d).faulty_calls;
  later : (D.state l.fn.d).faults ≤ (D.state l.d).faults;
}
