use Rattle.std.proofs.Common.{◌≡◌, sym, ap, map}
use Rattle.std.proofs.lemmas.Result.{on_ok_weaker}
use Rattle.restore_make.specs.Recovered.Recovery.{FromArchive}
use Rattle.base_model.specs.Values.{manifest_of}
use Rattle.restore_steps.specs.Clearing.{control_path}
use Rattle.restore_steps.proofs.Nodes.{none_at}
use Rattle.restore_make.specs.Options.{log_fetch_of, recovery_of, options_of}
use Rattle.worker_pool.proofs.Links.{left_all}
use Rattle.restore_make.proofs.Names.{own_control}
use Rattle.restore_make.proofs.Settled.{settles_some}
use Rattle.restore_make.proofs.settings.add_settings.Goals as goal

pub returns-in-Nothing-clause-left : goal.returns-in-Nothing-clause-left
returns-in-Nothing-clause-left g c = left_all (map g.L.Link.link_state c.args.pool.now.links.items) c.args.pool.now.lost.items c.requires.ready

pub returns-in-FromArchive-clause-settles : goal.returns-in-FromArchive-clause-settles
returns-in-FromArchive-clause-settles g c =
    let m = manifest_of c.args.what.now.manifest.now in
    let o = options_of c.args.what.now.options in
    let fetch = log_fetch_of c.in-FromArchive.fetch in
    let is : o.recovery ≡ FromArchive fetch = ap recovery_of c.in-FromArchive.is in
    let links = map g.L.Link.link_state c.args.pool.now.links.items in
    on_ok_weaker c.add_fetch.result
    (λ added marks first before after start left plain. settles_some c.args.what.now.stanza.now links o m c.requires.rules fetch marks first before after start left is (g.T.DataFolder.state c.args.tree.now).nodes (g.T.DataFolder.state c.add_fetch.new.tree).nodes
    c.add_fetch.ensures.others added plain)
    c.add_fetch.ensures.added

pub returns-in-FromArchive-clause-control : goal.returns-in-FromArchive-clause-control
returns-in-FromArchive-clause-control g c = none_at control_path (g.T.DataFolder.state c.args.tree.now).nodes (g.T.DataFolder.state c.add_fetch.new.tree).nodes (c.add_fetch.ensures.others control_path (own_control (FromArchive (log_fetch_of c.in-FromArchive.fetch))))
