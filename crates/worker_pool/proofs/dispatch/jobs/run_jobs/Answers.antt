use Rattle.worker_pool.proofs.Payloads.{by_file}
use Rattle.worker_pool.proofs.dispatch.jobs.run_jobs.Goals as goal

pub returns-in-Ok-clause-payload : goal.returns-in-Ok-clause-payload
returns-in-Ok-clause-payload g c = by_file _ _ _ c.in-Ok.ensures.done
