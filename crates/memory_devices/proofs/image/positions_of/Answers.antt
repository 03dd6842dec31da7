use Rattle.std.proofs.Common.{refl}
use Rattle.memory_devices.specs.Image.{positions_in}
use Rattle.memory_devices.proofs.Left.{position_more}
use Rattle.memory_devices.proofs.image.positions_of.Goals as goal

pub loop-name-preserved : goal.loop-name-preserved
loop-name-preserved c = position_more c.args.choice.now c.loop-name.name-index c.loop-name-item.result (positions_in c.loop-name.positions) (positions_in c.put_position.new.positions) c.deref.result.now _
    c.loop-name-test.true c.loop-name-item.is c.deref.ensures refl c.in_ok-put_position.ensures c.loop-name.invariant
