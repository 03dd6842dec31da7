use Rattle.std.proofs.Common.{◌≡◌, map, drop, string_bytes}
use Rattle.base_devices.specs.Order.{are_after, are_in_order}
use Rattle.backup_plan.proofs.listing_order.are_folders_ordered.Given as goal

-- those to come decide
abbrev pub invariant-loop-folder : goal.invariant-loop-folder
invariant-loop-folder l = are_after l.last (map string_bytes (drop l.folder-index l.rest)) ≡ are_in_order (map string_bytes l.folders)
