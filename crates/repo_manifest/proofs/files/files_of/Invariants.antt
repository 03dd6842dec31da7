use Rattle.std.proofs.Common.{◌≡◌, ◌++◌, map, drop}
use Rattle.std.specs.List.{AllByRecursion}
use Rattle.base_model.specs.ManifestText.{file_field}
use Rattle.base_model.specs.Values.{file_entry_of}
use Rattle.repo_ini.specs.Parts.{key_of}
use Rattle.repo_keys.proofs.Seeking.{Whole}
use Rattle.repo_manifest.specs.Alone.{IsFile}
use Rattle.repo_manifest.proofs.files.files_of.Given as goal

-- the files that are read and the keys to come are the whole
abbrev pub invariant-loop-k : goal.invariant-loop-k
invariant-loop-k l = record {
  rules : AllByRecursion IsFile (map file_entry_of l.files.items);
  read : map file_field (map file_entry_of l.files.items) ++ map key_of (drop l.k-index l.keys) ≡ map key_of l.keys;
  whole : Whole key_of l.keys l.k-index;
}
