use Rattle.std.proofs.Common.{◌≡◌, ◌≤◌, map, take}
use Rattle.base_model.specs.Values.{file_entry_of}
use Rattle.restore_make.specs.Kept.{marked}
use Rattle.restore_make.specs.KeptTimes.{AreThere, SetsTimes}
use Rattle.restore_make.proofs.kept_times.time_kept.Given as goal

abbrev pub invariant-loop-place : goal.invariant-loop-place
invariant-loop-place g l =
    let T = g.T.DataFolder in
    let ps = marked (map file_entry_of l.files) l.marks in
    record {
      timed : SetsTimes (take l.place ps) (T.state l.fn.tree).nodes (T.state l.tree).nodes;
      proper : AreThere ps (T.state l.fn.tree).nodes → (T.state l.tree).faulty_calls ≡ (T.state l.fn.tree).faulty_calls;
      opened : (T.state l.tree).opened ≡ (T.state l.fn.tree).opened;
      later : (T.state l.fn.tree).faults ≤ (T.state l.tree).faults;
    }
