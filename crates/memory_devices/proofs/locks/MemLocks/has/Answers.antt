use Rattle.memory_devices.proofs.Names.{among}
use Rattle.memory_devices.proofs.locks.MemLocks.has.Goals as goal

pub returns : goal.returns
returns c =
    let texts = c.args.self.now.taken.items in
    let name = c.args.name.now in
    rw (c.has_name.ensures, c.deref.ensures.value) (among name texts)
