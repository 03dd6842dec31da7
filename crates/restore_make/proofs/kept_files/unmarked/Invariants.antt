use Rattle.std.proofs.Common.{◌≡◌, length}
use Rattle.restore_make.specs.Digested.{NoneMarked}
use Rattle.restore_make.proofs.kept_files.unmarked.Given as goal

abbrev pub invariant-loop : goal.invariant-loop
invariant-loop l = record { count : length l.marks.items ≡ l.counter; none : NoneMarked l.marks.items }
