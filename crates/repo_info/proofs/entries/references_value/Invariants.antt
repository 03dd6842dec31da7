use Rattle.std.proofs.Common.{◌≡◌, ◌++◌, map, drop}
use Rattle.serde_json.specs.View.{view}
use Rattle.base_model.specs.InfoFiles.{label_value}
use Rattle.repo_info.proofs.entries.references_value.Given as goal

-- the labels that are there and those to come are the whole
abbrev pub invariant-loop-label : goal.invariant-loop-label
invariant-loop-label l = map view l.labels.items ++ map label_value (drop l.label-index l.references) ≡ map label_value l.references
