use Rattle.std.specs.Prelude.{◌≢◌, Option, IfSome}
use Rattle.std.proofs.Common.{◌≡◌, sym, ap, subst, map, List}
use Rattle.std.proofs.lemmas.Result.{IfErr-weaker}
use Rattle.base_model.specs.declared.files.FileEntry as rust_file
use Rattle.base_devices.specs.DataFolder.{Nodes, IsPlaced}
use Rattle.base_model.specs.Text.{Text, In}
use Rattle.base_model.specs.Values.{FileEntry, file_entry_of, manifest_of}
use Rattle.restore_steps.specs.Clearing.{control_path}
use Rattle.restore_make.specs.Finished.{IsMarked}
use Rattle.restore_make.proofs.Failing.{fails_more}
use Rattle.restore_make.proofs.Finished.{finished_none, put_finishes, on_ok_three, some_before}
use Rattle.restore_make.proofs.Proper.{entry_placed}
use Rattle.restore_make.proofs.folder_restore.put_last.Goals as goal

pub returns-in_ok-sync-in-None-clause-finishes : goal.returns-in_ok-sync-in-None-clause-finishes
returns-in_ok-sync-in-None-clause-finishes g c = λ o marks first before after start left plain.
    let m = manifest_of c.args.what.now.manifest.now in
    let old = (g.T.DataFolder.state c.args.tree.now).nodes in
    subst (λ (n : Option Nodes). IfSome n (IsMarked c.args.what.now.stanza.now first o m marks start)) (sym c.sync.ensures.nodes)
    (finished_none c.args.what.now.stanza.now first o m marks start c.requires.rules
    (subst (λ (l : List rust_file.FileEntry). (e : FileEntry) → In e (map file_entry_of l) → e.path ≢ control_path) c.deref.ensures.value c.in-None.ensures.none)
    old plain)

pub put_control-requires-clause-entry : goal.put_control-requires-clause-entry
put_control-requires-clause-entry g c =
    let m = manifest_of c.args.what.now.manifest.now in
    let listed = subst (λ (l : List rust_file.FileEntry). In (file_entry_of c.in-Some.file.now) (map file_entry_of l)) c.deref.ensures.value c.in-Some.ensures.some.0 in
    (m.folders, c.requires.rules.files (file_entry_of c.in-Some.file.now) listed)

pub returns-in-Some-clause-finishes : goal.returns-in-Some-clause-finishes
returns-in-Some-clause-finishes g c =
    let m = manifest_of c.args.what.now.manifest.now in
    let now = map g.L.Link.link_state c.args.pool.now.links.items in
    let o = (g.T.DataFolder.state c.args.tree.now).nodes in
    let r = (g.T.DataFolder.state c.put_control.new.tree).nodes in
    let e = file_entry_of c.in-Some.file.now in
    let listed = subst (λ (l : List rust_file.FileEntry). In (file_entry_of c.in-Some.file.now) (map file_entry_of l)) c.deref.ensures.value c.in-Some.ensures.some.0 in
    on_ok_three c.put_control.result _ _ _ _
    (λ put waiting clean. λ options marks first before after start left plain.
    put_finishes c.args.what.now.stanza.now first options m marks start c.requires.rules e listed c.in-Some.ensures.some.1 o r (some_before c.args.what.now.stanza.now first now before after m r left e control_path put) waiting clean c.put_control.ensures.others plain)
    c.put_control.ensures.put c.put_control.ensures.waiting c.put_control.ensures.clean

pub returns-in-Some-clause-fault : goal.returns-in-Some-clause-fault
returns-in-Some-clause-fault g c =
    let m = manifest_of c.args.what.now.manifest.now in
    let listed = subst (λ (l : List rust_file.FileEntry). In (file_entry_of c.in-Some.file.now) (map file_entry_of l)) c.deref.ensures.value c.in-Some.ensures.some.0 in
    IfErr-weaker c.put_control.result _ _
    (λ x h. fails_more c.args.what.now.stanza.now m.label (file_entry_of c.in-Some.file.now) m.files (map g.L.Link.link_state c.args.pool.now.links.items) (map g.L.Link.link_state c.put_control.new.pool.links.items) c.args.pool.now.lost.items c.put_control.new.pool.lost.items (g.T.DataFolder.state c.args.tree.now).faults (g.T.DataFolder.state c.put_control.new.tree).faults x listed h)
    c.put_control.ensures.fault

pub returns-in-Some-clause-proper : goal.returns-in-Some-clause-proper
returns-in-Some-clause-proper g c = λ there.
    let m = manifest_of c.args.what.now.manifest.now in
    let old = (g.T.DataFolder.state c.args.tree.now).nodes in
    let listed = subst (λ (l : List rust_file.FileEntry). In (file_entry_of c.in-Some.file.now) (map file_entry_of l)) c.deref.ensures.value c.in-Some.ensures.some.0 in
    c.put_control.ensures.proper (subst (λ (p : Text). IsPlaced old p) c.in-Some.ensures.some.1 (entry_placed m c.requires.rules old (file_entry_of c.in-Some.file.now) there listed))
