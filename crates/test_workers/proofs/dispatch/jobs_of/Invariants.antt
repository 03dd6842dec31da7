use Rattle.std.proofs.Common.{All, length, ◌≡◌}
use Rattle.worker_protocol.specs.Frames.{FitsJob}
use Rattle.worker_protocol.specs.Views.{job_of}
use Rattle.test_workers.proofs.dispatch.jobs_of.Given as goal

abbrev pub invariant-loop-frame : goal.invariant-loop-frame
invariant-loop-frame l = All (λ j. FitsJob (job_of j)) l.jobs.items × (length l.jobs.items ≡ l.frame-index)
