use Rattle.std.proofs.Common.{◌≡◌, map, take}
use Rattle.worker_protocol.specs.Views.{job_of}
use Rattle.restore_make.specs.Kept.{digesting}
use Rattle.restore_make.specs.Digested.{file_of}
use Rattle.restore_make.proofs.digesting.digest_jobs.Given as goal

abbrev pub invariant-loop-candidate : goal.invariant-loop-candidate
invariant-loop-candidate l = map job_of l.jobs.items ≡ map digesting (map file_of (take l.candidate-index l.candidates))
