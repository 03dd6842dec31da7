use Rattle.std.proofs.Common.{◌≡◌, ◌<◌, length, map, string_bytes}
use Rattle.base_model.specs.Text.{Text, In, ◌⫽◌}
use Rattle.backup_plan.proofs.listing_order.has_folders.Given as goal

-- the folders that end before i are there
abbrev pub invariant-loop-i : goal.invariant-loop-i
invariant-loop-i l = (prefix last : Text) → l.bytes ≡ prefix ⫽ last → length prefix < l.i → In prefix (map string_bytes l.folders)
