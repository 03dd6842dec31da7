use Rattle.std.proofs.Common.{◌≡◌, ◌++◌, map, drop, string_bytes}
use Rattle.std.specs.List.{AllByRecursion}
use Rattle.base_model.specs.ManifestText.{folder_field}
use Rattle.repo_ini.specs.Parts.{key_of}
use Rattle.repo_keys.proofs.Seeking.{Whole}
use Rattle.repo_manifest.specs.Alone.{IsDirectory}
use Rattle.repo_manifest.proofs.folders.more_of.Given as goal

-- the folders that are read and the keys to come are the whole
abbrev pub invariant-loop-k : goal.invariant-loop-k
invariant-loop-k l = record {
  rules : AllByRecursion IsDirectory (map string_bytes l.folders.items);
  read : map folder_field (map string_bytes l.folders.items) ++ map key_of (drop l.k-index l.keys) ≡ map key_of l.keys;
  whole : Whole key_of l.keys l.k-index;
}
