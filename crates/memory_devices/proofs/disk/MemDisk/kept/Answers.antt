use Rattle.memory_devices.specs.Replay.{states_in}
use Rattle.memory_devices.proofs.Images.{values_known, kept_known}
use Rattle.memory_devices.proofs.disk.MemDisk.kept.Goals as goal

pub returns-clause-values : goal.returns-clause-values
returns-clause-values c = let held = c.args.self.now.held in
    values_known held.given.items held.changes.items c.args.moment c.kept_in.result (states_in c.in_ok-traces.traces) c.args.name.now c.in_ok-traces.ensures c.kept_in.ensures

pub returns-clause-kept : goal.returns-clause-kept
returns-clause-kept c = let held = c.args.self.now.held in
    kept_known held.given.items held.changes.items c.args.moment c.kept_in.result c.args.name.now
    (values_known held.given.items held.changes.items c.args.moment c.kept_in.result (states_in c.in_ok-traces.traces) c.args.name.now c.in_ok-traces.ensures c.kept_in.ensures)
