use Rattle.memory_devices.specs.State.{given_at}
use Rattle.program_crashes.proofs.Playing.{held_keeps}
use Rattle.program_crashes.proofs.disks.Disks.holding.Goals as goal

pub returns : goal.returns
returns c = held_keeps (given_at c.args.repo.items) (given_at c.args.spool.items) (record { repo = c.in_ok-repo.repo; spool = c.in_ok-spool.spool }) c.in_ok-repo.ensures.view c.in_ok-spool.ensures.view
