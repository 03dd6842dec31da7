use Rattle.std.proofs.Common.{◌≡◌, ◌⊎◌, ◌↔◌, inl, inr, ⊎_elim, List, Option, Some, sym, ◌∙◌, ap}
use Rattle.std.specs.Prelude.{OnOk}
use Rattle.base_model.specs.declared.labels.Label.{Label}
use Rattle.base_model.specs.Text.{In}
use Rattle.backup_record.proofs.Referring.{on_same}
use Rattle.backup_record.proofs.references.note_of.Goals as goal

pub returns-in-Some : goal.returns-in-Some
returns-in-Some c = on_same c.note.result c.args.labels.now.items c.note.new.labels.items c.in-Some.label c.args.file.now.reference c.in-Some.is c.note.ensures
