use Rattle.std.proofs.Common.{arith}
use Rattle.std.proofs.lemmas.List.{length-map}
use Rattle.worker_protocol.specs.Views.{job_of}
use Rattle.worker_pool.proofs.Held.{fresh_at}
use Rattle.worker_pool.proofs.digest_runs.memory_keeper.Holder.new.Goals as goal

pub returns-clause-empty : goal.returns-clause-empty
returns-clause-empty c = λ j lt. fresh_at c.in_ok-fresh_jobs.field-0.items j c.in_ok-fresh_jobs.ensures.1 (omega (arith, length-map c.args.jobs.now job_of, c.in_ok-fresh_jobs.ensures.0, lt))
