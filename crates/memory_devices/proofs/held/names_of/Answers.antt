use Rattle.std.proofs.Common.{◌≡◌, rules}
use Rattle.memory_devices.specs.Agrees.{bytes_at}
use Rattle.memory_devices.proofs.Given.{given_more}
use Rattle.memory_devices.proofs.held.names_of.Goals as goal

pub loop-name-preserved : goal.loop-name-preserved
loop-name-preserved c =
    let value : c.in_ok-to_vec.field-0.items ≡ c.loop-name-item.result.1.items = search rules in
    given_more c.args.given.now c.loop-name.name-index c.loop-name-item.result (bytes_at c.loop-name.names) (bytes_at c.set.new.names) c.deref.result.now c.in_ok-to_vec.field-0.items
    c.loop-name-test.true c.loop-name-item.is c.deref.ensures value c.in_ok-set.ensures.ok c.loop-name.invariant
