use Rattle.memory_devices.specs.Replay.{unsynced_at, states_in, state_of_trace}
use Rattle.memory_devices.proofs.Replayed.{edited}
use Rattle.memory_devices.proofs.replay.unsync.Goals as goal

pub returns : goal.returns
returns c = edited c.put.result c.args.name.now (unsynced_at) (states_in c.args.traces.now) (states_in c.take.new.traces) (states_in c.put.new.traces) (state_of_trace c.in_ok-trace.trace) (state_of_trace c.unsync.new.self) c.put.ensures c.in_ok-trace.ensures.others c.in_ok-trace.ensures.trace c.unsync.ensures
