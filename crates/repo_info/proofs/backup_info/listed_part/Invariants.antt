use Rattle.std.proofs.Common.{◌≡◌, ◌++◌, map, drop, codes, string_bytes}
use Rattle.base_model.specs.InfoFiles.{entry_field}
use Rattle.base_model.specs.Values.{entry_of}
use Rattle.repo_ini.specs.Parts.{keys_of}
use Rattle.repo_info.proofs.backup_info.listed_part.Given as goal

-- the keys that are there and those to come are the whole
abbrev pub invariant-loop-e : goal.invariant-loop-e
invariant-loop-e l = record {
  name : string_bytes l.part.name ≡ codes "backup:current";
  keys : keys_of l.part ++ map entry_field (map entry_of (drop l.e-index l.backups)) ≡ map entry_field (map entry_of l.backups);
}
