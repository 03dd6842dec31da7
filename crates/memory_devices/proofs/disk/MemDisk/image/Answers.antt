use Rattle.memory_devices.specs.Replay.{states_in}
use Rattle.memory_devices.proofs.Images.{image_known}
use Rattle.memory_devices.proofs.disk.MemDisk.image.Goals as goal

pub returns-clause-image : goal.returns-clause-image
returns-clause-image c = let held = c.args.self.now.held in
    image_known held.given.items held.changes.items c.args.moment c.image_in.result (states_in c.in_ok-traces.traces) c.args.choice.now c.args.unsynced.now c.in_ok-traces.ensures c.image_in.ensures.content c.image_in.ensures.unsynced c.image_in.ensures.kept
