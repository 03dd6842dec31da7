use Rattle.std.proofs.Common.{◌≡◌, map, drop, codes, string_bytes}
use Rattle.base_model.specs.InfoFiles.{cluster_id_field}
use Rattle.base_model.specs.Fields.{with_fields, by_key}
use Rattle.repo_ini.specs.Parts.{keys_of}
use Rattle.repo_info.proofs.archive_info.history_part.Given as goal

-- the keys that are there and those to come are the whole
abbrev pub invariant-loop-c : goal.invariant-loop-c
invariant-loop-c l = record {
  name : string_bytes l.part.name ≡ codes "db:history";
  keys : with_fields (keys_of l.part) (map cluster_id_field (drop l.c-index l.history)) ≡ by_key (map cluster_id_field l.history);
}
