use Rattle.std.proofs.Common.{◌≡◌, length}
use Rattle.restore_make.specs.Digested.{IsMarkedBy}
use Rattle.restore_make.proofs.Marks.{MarkedTo}
use Rattle.restore_make.proofs.kept_files.mark.Given as goal

abbrev pub invariant-loop-i : goal.invariant-loop-i
invariant-loop-i l =
    record {
      count : length l.marks.items ≡ l.count;
      by : IsMarkedBy l.candidates l.ends l.marks.items;
      all : MarkedTo l.candidates l.ends l.i l.marks.items;
    }
