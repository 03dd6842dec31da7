use Rattle.std.proofs.Common.{rules, ◌≡◌, ◌≢◌, List, [], false, length, map, subst, sym}
use Rattle.std.specs.Prelude.{IfSome}
use Rattle.base_devices.specs.Cause.{Rises}
use Rattle.base_model.specs.declared.labels.Entry as rust_entry
use Rattle.base_model.specs.Text.{In}
use Rattle.base_model.specs.Values.{backup_info_of, entry_of}
use Rattle.cmd_types.specs.declared.stages.object.Object.TheVariants.{Repo}
use Rattle.cmd_types.specs.Halts.{Only}
use Rattle.restore_choice.specs.Choosing.{Lists, ShowsMissing, ChooseCause}
use Rattle.restore_choice.proofs.Causing.{missing_chooses, finds_chooses, halts_choose}
use Rattle.restore_choice.proofs.Halts.{halt_as, none_failed}
use Rattle.restore_choice.proofs.Labels.{have_labels, some_listed}
use Rattle.restore_choice.proofs.backup_choice.choose.Goals as goal

pub returns-then-not-has_label-clause-cause : goal.returns-then-not-has_label-clause-cause
returns-then-not-has_label-clause-cause g c =
    let v = backup_info_of c.args.list.now in
    let stanza = c.args.stanza.now in
    let choice = c.args.choice.now in
    let state = g.D.Disk.state c.args.repo.now in
    let repo = state.view.now in
    let asked = c.in-Labelled.label in
    let value = c.as_slice-backups.ensures.value in
    let some : length c.as_slice-backups.result.now ≢ 0 = search rules in
    let no : c.has_label.result ≡ false = search rules in
    let listed = subst (λ (es : List rust_entry.Entry). map entry_of es ≢ []) value (some_listed entry_of c.as_slice-backups.result.now some) in
    let off : ¬ Lists v asked = (λ x. c.has_label.ensures.none no x.0 (subst (λ (es : List rust_entry.Entry). In x.0 (map entry_of es)) (sym value) x.1) x.2) in
    halt_as (ShowsMissing asked) (λ fault. IfSome repo (λ f. ChooseCause stanza choice f v fault)) (λ _. ⊥) (Only Repo (Rises state.faults state.faults))
    (missing_chooses stanza repo choice v asked c.in-Labelled.is listed off) (none_failed (Only Repo (Rises state.faults state.faults))) c.missing.result c.missing.ensures

pub find_last-requires-clause-labels : goal.find_last-requires-clause-labels
find_last-requires-clause-labels g c = have_labels c.args.list.now c.requires.list.1 c.as_slice-backups.result.now c.as_slice-backups.ensures.value

pub returns-in-Last-clause-chosen : goal.returns-in-Last-clause-chosen
returns-in-Last-clause-chosen g c =
    finds_chooses c.args.stanza.now (g.D.Disk.state c.args.repo.now).view.now c.args.choice.now c.in-Last.bounds c.in-Last.is c.args.list.now c.as_slice-backups.result.now c.as_slice-backups.ensures.value c.find_last.result c.find_last.ensures.found

pub returns-in-Last-clause-cause : goal.returns-in-Last-clause-cause
returns-in-Last-clause-cause g c =
    let some : length c.as_slice-backups.result.now ≢ 0 = search rules in
    halts_choose c.args.stanza.now (g.D.Disk.state c.args.repo.now).view.now c.args.choice.now c.in-Last.bounds c.in-Last.is c.args.list.now c.as_slice-backups.result.now c.as_slice-backups.ensures.value some
    (Only Repo (Rises (g.D.Disk.state c.args.repo.now).faults (g.D.Disk.state c.find_last.new.repo).faults)) c.find_last.result c.find_last.ensures.cause
