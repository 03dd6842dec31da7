use Rattle.std.proofs.Common.{◌≡◌, ◌∙◌, ap, subst, map, take}
use Rattle.std.specs.Prelude.{IfSome}
use Rattle.std.proofs.lemmas.Result.{on_ok_weaker}
use Rattle.restore_make.specs.Recovered.{Recovery}
use Rattle.base_model.specs.Values.{manifest_of}
use Rattle.restore_make.specs.Options.{Options, recovery_of}
use Rattle.restore_make.specs.Finished.{IsFinished}
use Rattle.cmd_restore.specs.Fetching.{recovery_type, recovery_by, options_by}
use Rattle.cmd_restore.proofs.Fetch.{recovery_is}
use Rattle.cmd_restore.proofs.Links.{finished_used}
use Rattle.cmd_restore.proofs.folder_fill.fill.Goals as goal

pub returns-clause-finished : goal.returns-clause-finished
returns-clause-finished g c =
    let stanza = c.args.asked.now.stanza.now in
    let delta = c.args.asked.now.order.now.delta in
    let kind = recovery_type c.args.asked.now.order.now.recovery in
    let m = manifest_of c.args.asked.now.manifest.now in
    let used = take c.args.asked.now.order.now.workers (map g.L.Link.link_state c.args.pool.now.links.items) in
    let now = map g.L.Link.link_state c.start_workers.new.pool.links.items in
    let old = (g.T.DataFolder.state c.args.tree.now).nodes in
    let new = (g.T.DataFolder.state c.put_files.new.tree).nodes in
    let is : recovery_of c.recovery_by.result ≡ recovery_by stanza kind = c.recovery_by.ensures ∙ recovery_is stanza kind c.deref.result.now (map (λ line. line.items) c.deref-2.result.now) (c.deref.ensures.value ∙ c.in-Ok.ensures) (ap (map (λ line. line.items)) c.deref-2.ensures.value ∙ c.in-Ok-settings_for.ensures) in
    on_ok_weaker c.put_files.result
    (λ done. finished_used stanza used now c.start_workers.new.pool.lost.items (options_by stanza delta kind) m old new c.in_ok-start_workers.ensures.left
    (subst (λ (r : Recovery). let o : Options = (record { delta = delta; recovery = r }) in IfSome new (IsFinished stanza now o m old)) is done))
    c.put_files.ensures.finished
