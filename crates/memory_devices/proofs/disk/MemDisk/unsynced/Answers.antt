use Rattle.memory_devices.specs.Replay.{states_in}
use Rattle.memory_devices.proofs.Images.{unsynced_known}
use Rattle.memory_devices.proofs.disk.MemDisk.unsynced.Goals as goal

pub returns : goal.returns
returns c = let held = c.args.self.now.held in
    unsynced_known held.given.items held.changes.items c.args.moment c.unsynced_in.result (states_in c.in_ok-traces.traces) c.in_ok-traces.ensures c.unsynced_in.ensures
