use Rattle.std.proofs.Common.{All, length, ◌≡◌}
use Rattle.worker_protocol.specs.Frames.{FitsJob}
use Rattle.worker_protocol.specs.Views.{job_of}
use Rattle.bench_pace.proofs.pace.read_jobs.Given as goal

abbrev pub invariant-loop-number : goal.invariant-loop-number
invariant-loop-number l = All (λ j. FitsJob (job_of j)) l.jobs.items × (length l.jobs.items ≡ l.number-counter)
