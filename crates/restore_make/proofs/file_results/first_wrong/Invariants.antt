use Rattle.std.proofs.Common.{ℕ, ◌≡◌, ◌<◌, true, Some, slice_get}
use Rattle.restore_steps.specs.declared.contents.files.Filed.{Filed}
use Rattle.restore_steps.specs.Files.{is_wanted}
use Rattle.restore_make.proofs.file_results.first_wrong.Given as goal

abbrev pub invariant-loop-file : goal.invariant-loop-file
invariant-loop-file l = (k : ℕ) (f : Filed) → k < l.file-index → slice_get l.files k ≡ Some f → is_wanted f.wanted f.end ≡ true
