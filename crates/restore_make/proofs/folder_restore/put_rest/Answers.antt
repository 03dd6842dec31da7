use Rattle.std.proofs.Common.{◌∙◌, map, ◌++◌, []}
use Rattle.std.proofs.lemmas.Result.{on_ok_weaker, IfErr-weaker}
use Rattle.base_model.specs.Values.{manifest_of}
use Rattle.restore_make.proofs.Failing.{fails_before, fails_later}
use Rattle.restore_make.proofs.Fetched.{on_err_more}
use Rattle.worker_pool.proofs.Links.{left_beyond}
use Rattle.restore_make.proofs.folder_restore.put_rest.Goals as goal

pub apply_settings-requires-clause-ready : goal.apply_settings-requires-clause-ready
apply_settings-requires-clause-ready g c = λ i s is. (c.in_ok-rebuild.ensures.left.each i s is).ready

pub returns-clause-puts : goal.returns-clause-puts
returns-clause-puts g c =
    let links = map g.L.Link.link_state c.args.pool.now.links.items in
    let mid = map g.L.Link.link_state c.rebuild.new.pool.links.items in
    let old = (g.T.DataFolder.state c.args.tree.now).nodes in
    on_ok_weaker c.apply_settings.result
    (λ completes first before after left alike. completes c.args.marks.now first [] (left.entries ++ c.in_ok-rebuild.ensures.left.entries) old
    (left_beyond first links mid before after c.args.pool.now.lost.items c.rebuild.new.pool.lost.items left c.in_ok-rebuild.ensures.left)
    (c.in_ok-rebuild.ensures.rebuilds first before after left alike))
    c.apply_settings.ensures.completes

pub returns-clause-fault : goal.returns-clause-fault
returns-clause-fault g c =
    let m = manifest_of c.args.what.now.manifest.now in
    let first = map g.L.Link.link_state c.args.pool.now.links.items in
    let links = map g.L.Link.link_state c.rebuild.new.pool.links.items in
    let left = map g.L.Link.link_state c.apply_settings.new.pool.links.items in
    let start = c.args.pool.now.lost.items in
    let before = c.rebuild.new.pool.lost.items in
    let after = c.apply_settings.new.pool.lost.items in
    let f = (g.T.DataFolder.state c.args.tree.now).faults in
    let k = (g.T.DataFolder.state c.rebuild.new.tree).faults in
    let h = (g.T.DataFolder.state c.apply_settings.new.tree).faults in
    IfErr-weaker c.apply_settings.result _ _
    (λ e x. fails_later c.args.what.now.stanza.now m.label m.files first left start after f k h e c.rebuild.ensures.later
    (fails_before c.args.what.now.stanza.now m.label m.files first links left start before after k h e c.in_ok-rebuild.ensures.left x))
    c.apply_settings.ensures.fault

pub returns-clause-none : goal.returns-clause-none
returns-clause-none g c = on_err_more c.apply_settings.result _ _ (λ stays was. stays (c.rebuild.ensures.control was)) c.apply_settings.ensures.none

pub returns-clause-proper : goal.returns-clause-proper
returns-clause-proper g c = c.apply_settings.ensures.proper c.in_ok-rebuild.ensures.folders ∙ c.rebuild.ensures.proper
