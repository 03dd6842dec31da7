use Rattle.std.proofs.Common.{◌≡◌, ◌∙◌, map, sym, ap}
use Rattle.base_devices.specs.Content.{at}
use Rattle.base_model.specs.Values.{file_entry_of}
use Rattle.restore_steps.specs.Clearing.{control_path}
use Rattle.restore_steps.proofs.Nodes.{none_at}
use Rattle.restore_make.specs.Finished.{waiting_path}
use Rattle.restore_make.proofs.Fetched.{on_err, entry_moved, moved_at}
use Rattle.restore_make.proofs.Names.{control_lasts}
use Rattle.restore_make.proofs.Proper.{control_placed, entry_there}
use Rattle.restore_make.proofs.control.put_control.Goals as goal

pub returns-in_err-stage-clause-none : goal.returns-in_err-stage-clause-none
returns-in_err-stage-clause-none g c = on_err c.from_residual.result _ (none_at control_path (g.T.DataFolder.state c.args.tree.now).nodes (g.T.DataFolder.state c.stage.new.tree).nodes (c.stage.ensures.others control_path (control_lasts control_path) (control_lasts waiting_path)))

pub returns-in_err-place_synced-clause-none : goal.returns-in_err-place_synced-clause-none
returns-in_err-place_synced-clause-none g c = on_err c.from_residual-in_err-place_synced.result _ (none_at control_path (g.T.DataFolder.state c.args.tree.now).nodes (g.T.DataFolder.state c.place_synced.new.tree).nodes (ap (at control_path) c.in_err-place_synced.ensures.nodes ∙ c.stage.ensures.others control_path (control_lasts control_path) (control_lasts waiting_path)))

pub returns-clause-put : goal.returns-clause-put
returns-clause-put g c = entry_moved c.args.file.now.stanza.now c.args.file.now.own.now (map g.L.Link.link_state c.args.pool.now.links.items) (file_entry_of c.args.file.now.entry.now) waiting_path control_path (g.T.DataFolder.state c.stage.new.tree).nodes (g.T.DataFolder.state c.place_synced.new.tree).nodes c.in_ok-stage.ensures.waits c.in_ok-place_synced.ensures.nodes

pub returns-clause-others : goal.returns-clause-others
returns-clause-others g c = λ q off off_waiting off_temp. moved_at waiting_path control_path q (g.T.DataFolder.state c.stage.new.tree).nodes (g.T.DataFolder.state c.place_synced.new.tree).nodes off_waiting off c.in_ok-place_synced.ensures.nodes ∙ c.stage.ensures.others q off_waiting off_temp

pub returns-in_err-place_synced-clause-proper : goal.returns-in_err-place_synced-clause-proper
returns-in_err-place_synced-clause-proper g c = λ placed.
    let old = (g.T.DataFolder.state c.args.tree.now).nodes in
    let mid = (g.T.DataFolder.state c.stage.new.tree).nodes in
    c.place_synced.ensures.proper (entry_there c.args.file.now.stanza.now c.args.file.now.own.now (map g.L.Link.link_state c.args.pool.now.links.items) (file_entry_of c.args.file.now.entry.now) waiting_path mid c.in_ok-stage.ensures.waits) (control_placed old mid c.stage.ensures.others placed)
    ∙ c.stage.ensures.proper placed

pub returns-clause-proper : goal.returns-clause-proper
returns-clause-proper g c = λ placed.
    let old = (g.T.DataFolder.state c.args.tree.now).nodes in
    let mid = (g.T.DataFolder.state c.stage.new.tree).nodes in
    c.place_synced.ensures.proper (entry_there c.args.file.now.stanza.now c.args.file.now.own.now (map g.L.Link.link_state c.args.pool.now.links.items) (file_entry_of c.args.file.now.entry.now) waiting_path mid c.in_ok-stage.ensures.waits) (control_placed old mid c.stage.ensures.others placed)
    ∙ c.stage.ensures.proper placed
