use Rattle.std.proofs.Common.{◌≡◌, ◌∷◌, ◌++◌, map, drop, string_bytes}
use Rattle.base_model.specs.ManifestText.{folder_field}
use Rattle.repo_ini.specs.Parts.{keys_of}
use Rattle.repo_manifest.specs.Sections.{target_path, root_field}
use Rattle.repo_manifest.proofs.file_sections.folders_part.Given as goal

-- the keys that are there and those to come are the whole
abbrev pub invariant-loop-folder : goal.invariant-loop-folder
invariant-loop-folder l = record {
  name : string_bytes l.part.name ≡ target_path;
  keys : keys_of l.part ++ map folder_field (map string_bytes (drop l.folder-index l.folders)) ≡ root_field ∷ map folder_field (map string_bytes l.folders);
}
