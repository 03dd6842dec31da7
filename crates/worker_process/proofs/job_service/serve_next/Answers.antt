use Rattle.std.proofs.Common.{inr, refl}
use Rattle.worker_protocol.specs.Views.{job_of}
use Rattle.worker_process.proofs.Served.{not_output}
use Rattle.worker_process.proofs.job_service.serve_next.Goals as goal

pub returns-in-Ok-None-clause-known : goal.returns-in-Ok-None-clause-known
returns-in-Ok-None-clause-known g c = λ ft fr rest tree repo left.
    let h = rw c.in-Ok-None.field-0-is at (c.in-Ok-None.ensures.received_reply rest left) in
    (h.0, h.1, refl)

pub returns-in-Err-clause-sink : goal.returns-in-Err-clause-sink
returns-in-Err-clause-sink g c = λ e. not_output _ c.in-Err.fault c.in-Err.ensures.only e

pub returns-in-Ok-clause-known : goal.returns-in-Ok-clause-known
returns-in-Ok-clause-known g c = λ ft fr rest tree repo left.
    (job_of c.in-Ok-Some.received_reply.0, rw c.in-Ok-Some.field-0-is at (c.in-Ok-Some.ensures.received_reply rest left), c.in-Ok.ensures.known ft fr tree repo)

pub returns-clause-known : goal.returns-clause-known
returns-clause-known g c = λ ft fr rest tree repo left.
    inr (job_of c.in-Ok-Some.received_reply.0, c.in-Ok-Some.received_reply.1, rw c.in-Ok-Some.field-0-is at (c.in-Ok-Some.ensures.received_reply rest left), c.in-Err-answer_job.ensures.known ft fr tree repo, c.in-Err-answer_job.ensures.only)
