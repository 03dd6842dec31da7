use Rattle.std.proofs.Common.{◌≡◌, ◌+◌, map, take}
use Rattle.backup_plan.specs.Filter.{size_of, most_bytes}
use Rattle.backup_plan.specs.Views.{taken_of}
use Rattle.backup_plan.proofs.file_limits.passed_limit.Given as goal

-- what is left besides those so far
abbrev pub invariant-loop-file : goal.invariant-loop-file
invariant-loop-file l = l.left + size_of (map taken_of (take l.file-index l.files)) ≡ most_bytes
