use Rattle.std.proofs.Common.{map, string_bytes}
use Rattle.base_model.specs.ManifestText.{HasItsFolders}
use Rattle.repo_keys.proofs.Seeking.{Whole, Others}
use Rattle.repo_manifest.proofs.cross_rules.check_folders.Given as goal

-- a folder is placed, or is to come
abbrev pub invariant-loop-folder : goal.invariant-loop-folder
invariant-loop-folder l = record {
  whole : Whole string_bytes l.folders l.folder-index;
  others : Others string_bytes (HasItsFolders (map string_bytes l.folders)) l.folders l.folder-index;
}
