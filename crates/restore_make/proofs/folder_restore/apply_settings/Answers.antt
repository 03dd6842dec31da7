use Rattle.std.proofs.Common.{◌∙◌, map, ◌++◌, []}
use Rattle.std.proofs.lemmas.Result.{on_ok_weaker, IfErr-weaker}
use Rattle.base_model.specs.Values.{manifest_of}
use Rattle.restore_make.specs.Options.{options_of, recovery_of}
use Rattle.restore_make.proofs.Failing.{fails_before, fails_later}
use Rattle.restore_make.proofs.Fetched.{on_err, on_err_more}
use Rattle.worker_pool.proofs.Links.{left_beyond}
use Rattle.restore_make.proofs.Proper.{folders_beside_settings}
use Rattle.restore_make.proofs.folder_restore.apply_settings.Goals as goal

pub put_last-requires-clause-ready : goal.put_last-requires-clause-ready
put_last-requires-clause-ready g c = λ i s is. (c.in_ok-add_settings.ensures.left.each i s is).ready

pub returns-clause-completes : goal.returns-clause-completes
returns-clause-completes g c =
    let links = map g.L.Link.link_state c.args.pool.now.links.items in
    let mid = map g.L.Link.link_state c.add_settings.new.pool.links.items in
    on_ok_weaker c.put_last.result
    (λ finishes marks first before after start left plain. finishes (options_of c.args.what.now.options) marks first [] (left.entries ++ c.in_ok-add_settings.ensures.left.entries) start
    (left_beyond first links mid before after c.args.pool.now.lost.items c.add_settings.new.pool.lost.items left c.in_ok-add_settings.ensures.left)
    (c.in_ok-add_settings.ensures.settles marks first before after start left plain))
    c.put_last.ensures.finishes

pub returns-clause-fault : goal.returns-clause-fault
returns-clause-fault g c =
    let m = manifest_of c.args.what.now.manifest.now in
    let first = map g.L.Link.link_state c.args.pool.now.links.items in
    let links = map g.L.Link.link_state c.add_settings.new.pool.links.items in
    let left = map g.L.Link.link_state c.put_last.new.pool.links.items in
    let start = c.args.pool.now.lost.items in
    let before = c.add_settings.new.pool.lost.items in
    let after = c.put_last.new.pool.lost.items in
    let f = (g.T.DataFolder.state c.args.tree.now).faults in
    let k = (g.T.DataFolder.state c.add_settings.new.tree).faults in
    let h = (g.T.DataFolder.state c.put_last.new.tree).faults in
    IfErr-weaker c.put_last.result _ _
    (λ e x. fails_later c.args.what.now.stanza.now m.label m.files first left start after f k h e c.add_settings.ensures.later
    (fails_before c.args.what.now.stanza.now m.label m.files first links left start before after k h e c.in_ok-add_settings.ensures.left x))
    c.put_last.ensures.fault

pub returns-in_err-add_settings-clause-none : goal.returns-in_err-add_settings-clause-none
returns-in_err-add_settings-clause-none g c = on_err c.from_residual.result _ c.add_settings.ensures.control

pub returns-clause-none : goal.returns-clause-none
returns-clause-none g c = on_err_more c.put_last.result _ _ (λ stays was. stays (c.add_settings.ensures.control was)) c.put_last.ensures.none

pub returns-clause-proper : goal.returns-clause-proper
returns-clause-proper g c = λ there.
    c.put_last.ensures.proper (folders_beside_settings (manifest_of c.args.what.now.manifest.now) c.requires.rules (recovery_of c.args.what.now.options.recovery) (g.T.DataFolder.state c.args.tree.now).nodes (g.T.DataFolder.state c.add_settings.new.tree).nodes c.add_settings.ensures.others there)
    ∙ c.add_settings.ensures.proper
