use Rattle.std.proofs.Common.{◌<◌, ◌^◌, ap, ◌∙◌, arith, length}
use Rattle.worker_protocol.specs.Views.{job_of}
use Rattle.worker_protocol.specs.Frames.{job_bytes}
use Rattle.worker_protocol.proofs.Sizes.{paths_short, job_short}
use Rattle.worker_protocol.proofs.frames.frame_writer.encode_job.Goals as goal

pub job_body-requires-clause-items : goal.job_body-requires-clause-items
job_body-requires-clause-items c = paths_short c.args.job.now.items.items c.requires.items

pub framed-requires : goal.framed-requires
framed-requires c =
    let small : length (job_bytes (job_of c.args.job.now)) < 2 ^ 32 = job_short _ c.requires.small in
    omega (arith, small, ap length (c.deref.ensures.value ∙ c.in_ok-body.ensures))
