use Rattle.std.proofs.Common.{◌≡◌, ◌++◌, map, drop, false}
use Rattle.std.specs.List.{flat_map}
use Rattle.serde_json.specs.Written.{members_text}
use Rattle.base_model.specs.InfoText.{key_line, members_from}
use Rattle.repo_ini.specs.Parts.{key_of}
use Rattle.repo_ini.proofs.write.add_keys.Given as goal

-- what is written and what is to come are the whole
abbrev pub invariant-loop-key : goal.invariant-loop-key
invariant-loop-key l = record {
  text : l.text.items ++ flat_map key_line (map key_of (drop l.key-index l.keys)) ≡ l.fn.text.items ++ flat_map key_line (map key_of l.keys);
  json : l.json.items ++ members_text l.later (members_from (map key_of (drop l.key-index l.keys))) ≡ l.fn.json.items ++ members_text false (members_from (map key_of l.keys));
}
