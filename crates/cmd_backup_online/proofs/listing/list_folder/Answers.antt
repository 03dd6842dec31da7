use Rattle.base_devices.specs.Cause.{Rises}
use Rattle.cmd_types.specs.declared.stages.object.Object.TheVariants as objects
use Rattle.cmd_types.specs.Risen.{none, rose_in}
use Rattle.cmd_backup_online.proofs.Gatherings.{stop_halts}
use Rattle.cmd_backup_online.proofs.listing.list_folder.Goals as goal

pub returns-in-Err-clause-cause : goal.returns-in-Err-clause-cause
returns-in-Err-clause-cause g c =
    let tree = Rises (g.T.DataFolder.state c.args.tree.now).faults (g.T.DataFolder.state c.list.new.self).faults in
    let clock = Rises (g.C.Clock.state c.args.clock.now).faults (g.C.Clock.state c.args.clock.now).faults in
    stop_halts (rose_in (record none { tree = tree; clock = clock })) objects.TheDataFolder _ _ c.list.result c.in-Err.error c.halted.result c.in-Err.is c.list.ensures.cause (λ h. h) c.halted.ensures
