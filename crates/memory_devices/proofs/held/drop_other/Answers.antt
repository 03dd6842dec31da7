use Rattle.std.proofs.Common.{◌≡◌, false, None, rules, bytes_eq}
use Rattle.memory_devices.proofs.Maps.{bytes_set}
use Rattle.memory_devices.proofs.held.drop_other.Goals as goal

pub returns-then-ne : goal.returns-then-ne
returns-then-ne c =
    let other : bytes_eq c.args.from.now c.args.to.now ≡ false = search rules in
    rw other (bytes_set c.args.names.now c.remove.new.self c.args.from.now None c.remove.ensures.updates)
