use Rattle.std.proofs.Common.{refl}
use Rattle.program_run.proofs.Workers.{unknown_workers}
use Rattle.pgbackrest.proofs.perform.Goals as goal

pub run-status-requires-clause-workers : goal.run-status-requires-clause-workers
run-status-requires-clause-workers c = unknown_workers _ (λ link. refl) c.in_ok-links.links.items c.in_ok-links.ensures
