use Rattle.std.proofs.Common.{◌≡◌, sym, ap, subst, map, List, Bool}
use Rattle.std.proofs.lemmas.Result.{on_ok_weaker, IfErr-weaker}
use Rattle.base_model.specs.Text.{In}
use Rattle.base_model.specs.Values.{FileEntry, file_entry_of, manifest_of}
use Rattle.restore_steps.specs.Clearing.{seen_of}
use Rattle.restore_make.specs.Options.{options_of}
use Rattle.restore_make.specs.Kept.{AllAlike, MarksAlike}
use Rattle.restore_make.proofs.Completed.{completed}
use Rattle.restore_make.proofs.Failing.{fails_before, fails_later}
use Rattle.restore_make.proofs.Headline.{finished_restores}
use Rattle.restore_make.proofs.folder_restore.restore_files.Goals as goal

pub find_kept-requires-clause-entries : goal.find_kept-requires-clause-entries
find_kept-requires-clause-entries g c = λ e i.
    let m = manifest_of c.args.what.now.manifest.now in
    (m.folders, c.requires.rules.files e (subst (λ (es : List FileEntry). In e es) (ap (map file_entry_of) c.deref.ensures.value) i))

pub put_rest-requires-clause-ready : goal.put_rest-requires-clause-ready
put_rest-requires-clause-ready g c = λ i s is. (c.in_ok-marks.ensures.left.each i s is).ready

pub put_rest-requires-clause-marks : goal.put_rest-requires-clause-marks
put_rest-requires-clause-marks g c =
    let m = manifest_of c.args.what.now.manifest.now in
    let o = options_of c.args.what.now.options in
    let seen = map seen_of c.args.what.now.seen.now in
    let links = map g.L.Link.link_state c.args.pool.now.links.items in
    let files : map file_entry_of c.deref.result.now ≡ m.files = ap (map file_entry_of) c.deref.ensures.value in
    let alike = subst (λ (es : List FileEntry). AllAlike links o seen es c.deref-2.result.now) files (subst (λ (ms : List Bool). AllAlike links o seen (map file_entry_of c.deref.result.now) ms) (sym c.deref-2.ensures.value) c.in_ok-marks.ensures.alike) in
    λ e i. let x = alike e i in (x.ordinary, x.shown)

pub returns-clause-finished : goal.returns-clause-finished
returns-clause-finished g c =
    let m = manifest_of c.args.what.now.manifest.now in
    let o = options_of c.args.what.now.options in
    let seen = map seen_of c.args.what.now.seen.now in
    let links = map g.L.Link.link_state c.args.pool.now.links.items in
    let old = (g.T.DataFolder.state c.args.tree.now).nodes in
    let mid = (g.T.DataFolder.state c.remove_control.new.tree).nodes in
    let marks = c.deref-2.result.now in
    let files : map file_entry_of c.deref.result.now ≡ m.files = ap (map file_entry_of) c.deref.ensures.value in
    let alike = subst (λ (es : List FileEntry). AllAlike links o seen es marks) files (subst (λ (ms : List Bool). AllAlike links o seen (map file_entry_of c.deref.result.now) ms) (sym c.deref-2.ensures.value) c.in_ok-marks.ensures.alike) in
    let all = subst (λ (es : List FileEntry). MarksAlike links o seen es marks) files (subst (λ (ms : List Bool). MarksAlike links o seen (map file_entry_of c.deref.result.now) ms) (sym c.deref-2.ensures.value) c.in_ok-marks.ensures.all) in
    on_ok_weaker c.put_rest.result
    (λ puts. completed c.args.what.now.stanza.now links o m seen marks old mid c.requires.seen c.in_ok-remove_control.ensures.others all (g.T.DataFolder.state c.put_rest.new.tree).nodes
    (puts links c.args.pool.now.lost.items c.find_kept.new.pool.lost.items c.in_ok-marks.ensures.left alike))
    c.put_rest.ensures.puts

pub returns-clause-restored : goal.returns-clause-restored
returns-clause-restored g c =
    let m = manifest_of c.args.what.now.manifest.now in
    let o = options_of c.args.what.now.options in
    let seen = map seen_of c.args.what.now.seen.now in
    let links = map g.L.Link.link_state c.args.pool.now.links.items in
    let old = (g.T.DataFolder.state c.args.tree.now).nodes in
    let mid = (g.T.DataFolder.state c.remove_control.new.tree).nodes in
    let new = (g.T.DataFolder.state c.put_rest.new.tree).nodes in
    let marks = c.deref-2.result.now in
    let files : map file_entry_of c.deref.result.now ≡ m.files = ap (map file_entry_of) c.deref.ensures.value in
    let alike = subst (λ (es : List FileEntry). AllAlike links o seen es marks) files (subst (λ (ms : List Bool). AllAlike links o seen (map file_entry_of c.deref.result.now) ms) (sym c.deref-2.ensures.value) c.in_ok-marks.ensures.alike) in
    let all = subst (λ (es : List FileEntry). MarksAlike links o seen es marks) files (subst (λ (ms : List Bool). MarksAlike links o seen (map file_entry_of c.deref.result.now) ms) (sym c.deref-2.ensures.value) c.in_ok-marks.ensures.all) in
    on_ok_weaker c.put_rest.result
    (λ puts. finished_restores c.args.what.now.stanza.now links o m old new (completed c.args.what.now.stanza.now links o m seen marks old mid c.requires.seen c.in_ok-remove_control.ensures.others all new
    (puts links c.args.pool.now.lost.items c.find_kept.new.pool.lost.items c.in_ok-marks.ensures.left alike)))
    c.put_rest.ensures.puts

pub returns-clause-fault : goal.returns-clause-fault
returns-clause-fault g c =
    let m = manifest_of c.args.what.now.manifest.now in
    let first = map g.L.Link.link_state c.args.pool.now.links.items in
    let links = map g.L.Link.link_state c.find_kept.new.pool.links.items in
    let left = map g.L.Link.link_state c.put_rest.new.pool.links.items in
    let start = c.args.pool.now.lost.items in
    let before = c.find_kept.new.pool.lost.items in
    let after = c.put_rest.new.pool.lost.items in
    let f = (g.T.DataFolder.state c.args.tree.now).faults in
    let k = (g.T.DataFolder.state c.remove_control.new.tree).faults in
    let h = (g.T.DataFolder.state c.put_rest.new.tree).faults in
    IfErr-weaker c.put_rest.result _ _
    (λ e x. fails_later c.args.what.now.stanza.now m.label m.files first left start after f k h e c.remove_control.ensures.cause.later
    (fails_before c.args.what.now.stanza.now m.label m.files first links left start before after k h e c.in_ok-marks.ensures.left x))
    c.put_rest.ensures.fault
