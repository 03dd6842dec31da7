use Rattle.std.proofs.Common.{take, map, ◌↔◌}
use Rattle.base_model.specs.declared.labels.Label.{Label}
use Rattle.base_model.specs.Text.{In}
use Rattle.base_model.specs.Values.{file_entry_of}
use Rattle.cmd_verify.specs.References.{RefersTo}
use Rattle.cmd_verify.proofs.findings.references.labels_of.Given as goal

abbrev pub invariant-loop-file : goal.invariant-loop-file
invariant-loop-file l = (x : Label) → In x l.labels.items ↔ RefersTo (map file_entry_of (take l.file-index l.files)) x
