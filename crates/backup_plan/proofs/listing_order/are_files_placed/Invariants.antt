use Rattle.std.proofs.Common.{map, take, string_bytes}
use Rattle.base_model.specs.Text.{In}
use Rattle.backup_plan.specs.Listed.{Taken}
use Rattle.backup_plan.specs.Filter.{IsPlaced}
use Rattle.backup_plan.specs.Views.{taken_of}
use Rattle.backup_plan.proofs.listing_order.are_files_placed.Given as goal

-- those so far are placed
abbrev pub invariant-loop-file : goal.invariant-loop-file
invariant-loop-file l = (f : Taken) → In f (map taken_of (take l.file-index l.files)) → IsPlaced (map string_bytes l.folders) f
