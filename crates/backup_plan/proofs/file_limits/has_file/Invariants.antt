use Rattle.std.proofs.Common.{◌≢◌, map, take}
use Rattle.base_model.specs.Text.{In}
use Rattle.backup_plan.specs.Listed.{Taken}
use Rattle.backup_plan.specs.Views.{taken_of}
use Rattle.backup_plan.proofs.file_limits.has_file.Given as goal

-- none so far has the path
abbrev pub invariant-loop-file : goal.invariant-loop-file
invariant-loop-file l = (f : Taken) → In f (map taken_of (take l.file-index l.files)) → f.path ≢ l.path
