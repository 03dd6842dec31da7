use Rattle.std.proofs.Common.{◌≡◌, map, drop}
use Rattle.base_devices.specs.Order.{are_after, are_in_order}
use Rattle.backup_plan.specs.Filter.{paths_of}
use Rattle.backup_plan.specs.Views.{taken_of}
use Rattle.backup_plan.proofs.listing_order.are_files_ordered.Given as goal

-- those to come decide
abbrev pub invariant-loop-file : goal.invariant-loop-file
invariant-loop-file l = are_after l.last (paths_of (map taken_of (drop l.file-index l.rest))) ≡ are_in_order (paths_of (map taken_of l.files))
