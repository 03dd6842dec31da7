use Rattle.std.proofs.Common.{◌∙◌, ap, map, List, refl}
use Rattle.base_model.specs.declared.labels.Entry.{Entry as RustEntry}
use Rattle.base_model.specs.Values.{Entry, entry_of, backup_info_of}
use Rattle.cmd_verify.proofs.Whole.{entries_fit, labels_known, whole_known, clean_known, stored_as}
use Rattle.repo_info.proofs.OneArchive.{one_archive_text}
use Rattle.repo_text_lemmas.proofs.Lists.{one_list}
use Rattle.repo_text_lemmas.proofs.Manifests.{one_manifest}
use Rattle.cmd_verify.proofs.findings.whole_check.verify.Goals as goal

pub look_at_backups-requires-clause-labels : goal.look_at_backups-requires-clause-labels
look_at_backups-requires-clause-labels g c =
    entries_fit (backup_info_of c.args.listed.now) c.requires.rules (map entry_of c.deref-4.result.now) (ap (map entry_of) c.deref-4.ensures.value)

pub look_at_backups-requires-clause-listed : goal.look_at_backups-requires-clause-listed
look_at_backups-requires-clause-listed g c = let D = g.D.Disk in
    labels_known c.args.stanza.now (D.state c.args.d.now).view.now (D.state c.look_at_files_of.new.d).view.now (c.look_at_files_of.ensures.looks.now ∙ c.look_at_pairs.ensures.looks.now) (backup_info_of c.args.listed.now) one_list c.requires.listed c.deref-5.result.now
    (c.deref-5.ensures.value ∙ c.in_ok-labels.ensures ∙ ap (λ (es : List RustEntry). map (λ (e : Entry). e.label) (map entry_of es)) c.deref.ensures.value)

pub returns-clause-exact : goal.returns-clause-exact
returns-clause-exact g c = let D = g.D.Disk in
    let now = c.look_at_files_of.ensures.looks.now ∙ c.look_at_pairs.ensures.looks.now in
    let before = (D.state c.look_at_pairs.new.d).view.now in
    whole_known c.args.stanza.now (D.state c.args.d.now).view.now before (D.state c.look_at_files_of.new.d).view.now (backup_info_of c.args.listed.now) c.in_ok-pairs.pairs c.deref-2.result.now c.deref-3.result.now (map entry_of c.deref-4.result.now)
    c.new-found.result.items c.look_at_pairs.new.found.items c.look_at_files_of.new.found.items c.tell_contradictions.new.found.items c.look_at_backups.new.found.items c.put_in_order.new.found.items c.new-found.ensures.items c.look_at_pairs.ensures.looks.now now
    one_list c.deref-3.ensures.value (ap (map entry_of) c.deref-4.ensures.value) c.requires.listed c.in_ok-pairs.ensures.values
    (stored_as c.args.stanza.now before before refl c.in_ok-files.files.items c.deref-2.result.now c.deref-2.ensures.value c.in_ok-files.ensures.stored)
    c.in_ok-pairs.ensures.adds c.in_ok-files.ensures.adds c.in_ok-tell_contradictions.ensures c.in_ok-look_at_backups.ensures.adds c.put_in_order.ensures.order c.put_in_order.ensures.each c.put_in_order.ensures.all

pub returns-clause-clean : goal.returns-clause-clean
returns-clause-clean g c = let D = g.D.Disk in
    clean_known c.args.stanza.now (D.state c.args.d.now).view.now c.put_in_order.new.found.items one_archive_text one_list one_manifest (returns-clause-exact g c)
