use Rattle.memory_devices.specs.Replay.{states_in}
use Rattle.memory_devices.proofs.Replayed.{swept_more}
use Rattle.memory_devices.proofs.replay.sweep_each.Goals as goal

pub loop-name-preserved : goal.loop-name-preserved
loop-name-preserved c = swept_more c.args.sweep c.args.names.now c.loop-name.name-index c.name-item.result (states_in c.args.traces.now) (states_in c.loop-name.traces) (states_in c.sweep_name.new.traces) c.deref.result.now
    c.loop-name-test.true c.name-item.is c.deref.ensures c.in_ok-sweep_name.ensures c.loop-name.invariant
