use Rattle.std.proofs.Common.{◌≡◌, ◌++◌, map, drop, string_bytes}
use Rattle.base_model.specs.ManifestText.{file_field}
use Rattle.base_model.specs.Values.{file_entry_of}
use Rattle.repo_ini.specs.Parts.{keys_of}
use Rattle.repo_manifest.specs.Sections.{target_file}
use Rattle.repo_manifest.proofs.file_sections.files_part.Given as goal

-- the keys that are there and those to come are the whole
abbrev pub invariant-loop-file : goal.invariant-loop-file
invariant-loop-file l = record {
  name : string_bytes l.part.name ≡ target_file;
  keys : keys_of l.part ++ map file_field (map file_entry_of (drop l.file-index l.files)) ≡ map file_field (map file_entry_of l.files);
}
