use Rattle.std.proofs.Common.{◌≡◌, rules}
use Rattle.memory_devices.specs.Replay.{states_in, state_of_trace}
use Rattle.memory_devices.proofs.Replayed.{first_more}
use Rattle.memory_devices.proofs.replay.first_traces.Goals as goal

pub loop-name-preserved : goal.loop-name-preserved
loop-name-preserved c =
    let value : c.in_ok-to_vec.field-0.items ≡ c.loop-name-item.result.1.items = search rules in
    first_more c.args.given.now c.loop-name.name-index c.loop-name-item.result (states_in c.loop-name.traces) (states_in c.put.new.traces) (state_of_trace c.in_ok-trace.trace) c.deref-in-loop-name.result.now c.in_ok-to_vec.field-0.items
    c.loop-name-test.true c.loop-name-item.is c.deref-in-loop-name.ensures value c.in_ok-trace.ensures c.in_ok-put.ensures c.loop-name.invariant
