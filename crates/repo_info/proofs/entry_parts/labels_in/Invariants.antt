use Rattle.std.proofs.Common.{◌≡◌, ◌++◌, map, drop}
use Rattle.std.specs.List.{AllByRecursion}
use Rattle.serde_json.specs.View.{view}
use Rattle.base_model.specs.InfoFiles.{IsLabel, label_value}
use Rattle.repo_keys.proofs.Seeking.{Whole}
use Rattle.repo_info.proofs.entry_parts.labels_in.Given as goal

-- the labels that are read and the items to come are the whole
abbrev pub invariant-loop-item : goal.invariant-loop-item
invariant-loop-item l = record {
  rules : AllByRecursion IsLabel l.labels.items;
  read : map label_value l.labels.items ++ map view (drop l.item-index l.item-items) ≡ map view l.item-items;
  whole : Whole view l.item-items l.item-index;
}
