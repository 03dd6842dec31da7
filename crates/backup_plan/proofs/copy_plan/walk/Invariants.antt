use Rattle.std.proofs.Common.{◌≡◌, map, drop, length}
use Rattle.base_model.specs.Values.{file_entry_of}
use Rattle.backup_plan.specs.Layout.{layout, laid_all, IsWithin}
use Rattle.backup_plan.specs.Views.{taken_of, layout_of}
use Rattle.backup_plan.proofs.copy_plan.walk.Given as goal

-- what the files to come make of the layout so far is the layout
abbrev pub invariant-loop-i : goal.invariant-loop-i
invariant-loop-i l = record {
  laid : laid_all l.settings (map file_entry_of l.old) (layout_of l.walk) (map taken_of (drop l.i l.files)) (drop l.i l.equal) ≡ layout l.settings (map file_entry_of l.old) (map taken_of l.files) l.equal;
  within : IsWithin (layout_of l.walk);
  count : length l.walk.choices.items ≡ l.i;
}
