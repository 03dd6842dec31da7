use Rattle.std.proofs.Common.{◌≡◌, ◌<◌, ◌^◌, List, map, length, subst, sym}
use Rattle.base_devices.specs.Cause.{Rises}
use Rattle.base_model.specs.Values.{manifest_of}
use Rattle.worker_pool.specs.declared.dispatch.fault.Lost.{Lost}
use Rattle.cmd_types.specs.declared.stages.object.Object.TheVariants.{TheDataFolder}
use Rattle.cmd_types.specs.Halts.{HaltCause, Only}
use Rattle.cmd_restore.specs.Filling.{FillCause}
use Rattle.cmd_restore.proofs.Links.{fill_cause}
use Rattle.cmd_restore.proofs.folder_fill.put_files.Goals as goal

pub returns-in-Err-clause-cause : goal.returns-in-Err-clause-cause
returns-in-Err-clause-cause g c = λ used few was.
    let m = manifest_of c.args.asked.now.manifest.now in
    let now = map g.L.Link.link_state c.args.pool.now.links.items in
    let left = map g.L.Link.link_state c.restore_files.new.pool.links.items in
    let old = (g.T.DataFolder.state c.args.tree.now).faults in
    let new = (g.T.DataFolder.state c.restore_files.new.tree).faults in
    let count = subst (λ (l : List Lost). length l < 2 ^ 32 → c.count_of.result ≡ length l) c.deref.ensures.value c.count_of.ensures in
    subst (HaltCause (FillCause c.args.asked.now.stanza.now m used) (Only TheDataFolder (Rises old new))) (sym c.of_fill.ensures)
    (fill_cause c.args.asked.now.stanza.now m used now left c.args.pool.now.lost.items c.restore_files.new.pool.lost.items few was c.count_of.result old new count c.in-Err.fault c.in-Err.ensures.fault)
