use Rattle.program_crashes.proofs.Playing.{none_held}
use Rattle.program_crashes.proofs.disks.Disks.empty.Goals as goal

pub returns : goal.returns
returns c = none_held c.holding.result c.new.result.items c.new-2.result.items c.new.ensures.items c.new-2.ensures.items c.holding.ensures
