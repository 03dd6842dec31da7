use Rattle.std.proofs.Common.{◌≡◌, ◌≤◌, Some, length, take}
use Rattle.base_devices.specs.Content.{Content}
use Rattle.worker_protocol.specs.Views.{items_of}
use Rattle.worker_process.proofs.JobKnown.{AreAnswered}
use Rattle.worker_process.proofs.job_reply.answer_job.Given as goal

abbrev pub invariant-loop-item : goal.invariant-loop-item
invariant-loop-item g l = let F = g.F.Files in let G = g.G.Files in let O = g.O.OutputStream in record {
  long : length l.room ≡ length l.fn.room;
  tree : F.files l.tree ≡ F.files l.fn.tree;
  repo : G.files l.repo ≡ G.files l.fn.repo;
  tree_place : F.place l.tree ≡ F.place l.fn.tree;
  repo_place : G.place l.repo ≡ G.place l.fn.repo;
  tree_failed : F.faults l.fn.tree ≤ F.faults l.tree;
  repo_failed : G.faults l.fn.repo ≤ G.faults l.repo;
  later : (O.state l.fn.out).faults ≤ (O.state l.out).faults;
  so_far : (ft fr : Content) → F.files l.fn.tree ≡ Some ft → G.files l.fn.repo ≡ Some fr → AreAnswered l.job.kind ft fr (items_of (take l.item-index l.job.items.items)) (O.state l.fn.out).written (O.state l.out).written;
}
