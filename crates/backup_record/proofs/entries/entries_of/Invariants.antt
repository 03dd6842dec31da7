use Rattle.std.proofs.Common.{◌≡◌, ◌++◌, map, drop}
use Rattle.base_model.specs.Values.{file_entry_of}
use Rattle.backup_plan.specs.Views.{taken_of}
use Rattle.backup_record.specs.Entries.{entries}
use Rattle.backup_record.specs.Views.{went_of}
use Rattle.backup_record.proofs.entries.entries_of.Given as goal

abbrev pub invariant-loop-i : goal.invariant-loop-i
invariant-loop-i l = map file_entry_of l.list.items ++ entries (went_of l.ran) (map taken_of (drop l.i l.files)) (drop l.i l.choices) ≡ entries (went_of l.ran) (map taken_of l.files) l.choices
