use Rattle.std.proofs.Common.{◌≡◌, ◌↔◌, map, take}
use Rattle.base_model.specs.declared.labels.Label.{Label}
use Rattle.base_model.specs.Text.{In}
use Rattle.base_model.specs.Values.{file_entry_of}
use Rattle.backup_record.specs.Making.{RefersTo}
use Rattle.backup_record.proofs.references.labels_in.Given as goal

-- the labels to which the files so far refer
abbrev pub invariant-loop-file : goal.invariant-loop-file
invariant-loop-file l = (x : Label) → In x l.labels.items ↔ RefersTo (map file_entry_of (take l.file-index l.files)) x
