use Rattle.std.proofs.Common.{◌≡◌, ◌↔◌, ◌++◌, true, map, take, drop}
use Rattle.base_devices.specs.Order.{are_in_order}
use Rattle.base_model.specs.declared.labels.Label.{Label}
use Rattle.base_model.specs.Names.{label_text}
use Rattle.base_model.specs.Text.{In}
use Rattle.base_model.specs.Values.{entry_of}
use Rattle.backup_record.specs.Making.{labels_of}
use Rattle.backup_record.proofs.references.references_of.Given as goal

-- those of the listed labels so far, which are in order with all that follow
abbrev pub invariant-loop-backup : goal.invariant-loop-backup
invariant-loop-backup l = record {
  each : (x : Label) → In x l.references.items ↔ (In x (labels_of (map entry_of (take l.backup-index l.listed))) × In x l.labels);
  order : are_in_order (map label_text (labels_of (map entry_of l.listed))) ≡ true → are_in_order (map label_text l.references.items ++ map label_text (labels_of (map entry_of (drop l.backup-index l.listed)))) ≡ true;
}
