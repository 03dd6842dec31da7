use Rattle.std.proofs.Common.{map, take, string_bytes}
use Rattle.base_model.specs.Text.{Text, In}
use Rattle.base_model.specs.ManifestText.{HasItsFolders}
use Rattle.backup_plan.proofs.listing_order.are_folders_placed.Given as goal

-- those so far are placed
abbrev pub invariant-loop-folder : goal.invariant-loop-folder
invariant-loop-folder l = (path : Text) → In path (map string_bytes (take l.folder-index l.folders)) → HasItsFolders (map string_bytes l.folders) path
