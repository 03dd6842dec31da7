use Rattle.std.proofs.Common.{refl}
use Rattle.worker_pool.proofs.Ready.{unknown_are_ready}
use Rattle.bench_pace.proofs.pace.read_all.Goals as goal

pub setup-requires-clause-ready : goal.setup-requires-clause-ready
setup-requires-clause-ready c = unknown_are_ready _ (λ l. refl) c.args.pool.now.links.items

pub run_jobs-ending-requires-clause-ready : goal.run_jobs-ending-requires-clause-ready
run_jobs-ending-requires-clause-ready c = unknown_are_ready _ (λ l. refl) c.setup.new.pool.links.items
