use Rattle.memory_devices.specs.Replay.{removed_at, states_in, state_of_trace}
use Rattle.memory_devices.proofs.Replayed.{edited}
use Rattle.memory_devices.proofs.replay.remove.Goals as goal

pub returns : goal.returns
returns c = edited c.put.result c.args.name.now (removed_at) (states_in c.args.traces.now) (states_in c.take.new.traces) (states_in c.put.new.traces) (state_of_trace c.in_ok-trace.trace) (state_of_trace c.remove.new.self) c.put.ensures c.in_ok-trace.ensures.others c.in_ok-trace.ensures.trace c.in_ok-remove.ensures
