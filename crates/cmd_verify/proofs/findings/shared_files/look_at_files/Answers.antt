use Rattle.std.proofs.Common.{◌↔◌, subst, sym, map, Option}
use Rattle.std.specs.Prelude.{IfSome}
use Rattle.base_devices.specs.Content.{Content}
use Rattle.base_model.specs.declared.labels.Label.{Label}
use Rattle.base_model.specs.Log.{Lists}
use Rattle.base_model.specs.Text.{In}
use Rattle.base_model.specs.Values.{file_entry_of}
use Rattle.cmd_verify.proofs.Shared.{files_known, labels_fit}
use Rattle.cmd_verify.proofs.findings.shared_files.look_at_files.Goals as goal

pub look_at_labels-requires-clause-labels : goal.look_at_labels-requires-clause-labels
look_at_labels-requires-clause-labels g c = labels_fit (map file_entry_of c.args.files.now) c.requires.references c.in_ok-labels.labels.items c.deref.result.now c.deref.ensures.value c.in_ok-labels.ensures

pub look_at_labels-requires-clause-listed : goal.look_at_labels-requires-clause-listed
look_at_labels-requires-clause-listed g c =
    subst (λ (o : Option Content). IfSome o (λ f. (k : Label) → In k c.args.listed.now ↔ Lists c.args.stanza.now f k)) (sym c.look_at_own_files.ensures.looks.now) c.requires.listed

pub returns-clause-adds : goal.returns-clause-adds
returns-clause-adds g c = let D = g.D.Disk in
    files_known c.args.stanza.now c.args.own.now c.args.files.now c.in_ok-labels.labels.items c.deref.result.now c.deref.ensures.value c.in_ok-labels.ensures
    (D.state c.args.d.now).view.now (D.state c.look_at_own_files.new.d).view.now c.look_at_own_files.ensures.looks.now c.args.found.now.items c.look_at_own_files.new.found.items c.look_at_labels.new.found.items
    c.in_ok-look_at_own_files.ensures.adds c.in_ok-look_at_labels.ensures.adds
