use Rattle.memory_workers.specs.Workers.{state_of}
use Rattle.program_run.proofs.Workers.{no_workers}
use Rattle.program_crashes.proofs.workers.Workers.none.Goals as goal

pub invariant_of-result : goal.invariant_of-result
invariant_of-result c = record { are = no_workers state_of c.new.result.items c.new.ensures.items }
