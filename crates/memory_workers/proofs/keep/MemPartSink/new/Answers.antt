use Rattle.std.proofs.Common.{true, arith}
use Rattle.std.proofs.lemmas.List.{length-map}
use Rattle.worker_protocol.specs.Views.{job_of}
use Rattle.memory_workers.proofs.Keeping.{fresh_at}
use Rattle.memory_workers.proofs.keep.MemPartSink.new.Goals as goal

pub returns-clause-empty : goal.returns-clause-empty
returns-clause-empty c = λ j lt. fresh_at true c.in_ok-fresh_jobs.field-0.items j c.in_ok-fresh_jobs.ensures.1 (omega (arith, length-map c.args.jobs.now job_of, c.in_ok-fresh_jobs.ensures.0, lt))
