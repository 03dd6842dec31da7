use Rattle.memory_devices.proofs.Replayed.{traces_taken}
use Rattle.memory_devices.proofs.replay.take.Goals as goal

pub returns-in-Some-clause-others : goal.returns-in-Some-clause-others
returns-in-Some-clause-others c = traces_taken c.args.traces.now c.remove.new.self c.args.name.now c.remove.ensures.updates

pub returns-in-None-clause-others : goal.returns-in-None-clause-others
returns-in-None-clause-others c = traces_taken c.args.traces.now c.remove.new.self c.args.name.now c.remove.ensures.updates
