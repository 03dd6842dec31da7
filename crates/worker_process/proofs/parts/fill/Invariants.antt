use Rattle.std.proofs.Common.{◌≡◌, ◌<◌, ◌≤◌, ◌+◌, ◌-◌, ◌*◌, ◌^◌, min, length}
use Rattle.worker_process.proofs.Filled.{Filled}
use Rattle.worker_process.proofs.parts.fill.Given as goal

abbrev pub invariant-loop-last : goal.invariant-loop-last
invariant-loop-last g l = let F = g.F.Files in record {
  same : length l.buf ≡ length l.fn.buf;
  room : l.have ≤ length l.buf;
  within : l.at + l.have < 2 ^ 64;
  files : F.files l.files ≡ F.files l.fn.files;
  place : F.place l.files ≡ F.place l.fn.files;
  later : F.faults l.fn.files ≤ F.faults l.files;
  known : Filled (F.files l.fn.files) l.name l.at l.have l.last l.buf;
}

abbrev pub decreases-loop-last : goal.decreases-loop-last
decreases-loop-last g l = 2 * (length l.buf - l.have) + min l.last 1
