use Rattle.std.proofs.Common.{◌≡◌, ◌++◌, drop, true}
use Rattle.std.specs.List.{flat_map}
use Rattle.serde_json.specs.Written.{members_text}
use Rattle.base_model.specs.InfoText.{section_text, sections_from}
use Rattle.repo_ini.specs.Parts.{sections_of}
use Rattle.repo_ini.proofs.write.add_sections.Given as goal

-- what is written and what is to come are the whole
abbrev pub invariant-loop-part : goal.invariant-loop-part
invariant-loop-part l = record {
  text : l.text.items ++ flat_map section_text (sections_of (drop l.part-index l.parts)) ≡ l.fn.text.items ++ flat_map section_text (sections_of l.parts);
  json : l.json.items ++ members_text true (sections_from (sections_of (drop l.part-index l.parts))) ≡ l.fn.json.items ++ members_text true (sections_from (sections_of l.parts));
}
