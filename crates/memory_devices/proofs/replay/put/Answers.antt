use Rattle.memory_devices.proofs.Replayed.{traces_put}
use Rattle.memory_devices.proofs.replay.put.Goals as goal

pub returns-in-Ok : goal.returns-in-Ok
returns-in-Ok c = traces_put c.args.traces.now c.insert.new.self _ c.args.name.now c.args.trace c.in-Ok.ensures.updates c.in_ok-key.ensures.ok
