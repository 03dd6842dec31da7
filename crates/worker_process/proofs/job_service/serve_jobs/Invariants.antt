use Rattle.std.proofs.Common.{◌≡◌, ◌≤◌, Some, length}
use Rattle.base_devices.specs.Content.{Content}
use Rattle.base_model.specs.Text.{Text}
use Rattle.worker_process.specs.Serving.{counts, NotOpened}
use Rattle.worker_process.proofs.Served.{Going}
use Rattle.worker_process.proofs.job_service.serve_jobs.Given as goal

abbrev pub invariant-loop-jobs : goal.invariant-loop-jobs
invariant-loop-jobs g l = let F = g.F.Files in let G = g.G.Files in let O = g.O.OutputStream in let I = g.I.InputFiles in record {
  long : length l.room ≡ length l.fn.room;
  tree : F.files l.tree ≡ F.files l.fn.tree;
  repo : G.files l.repo ≡ G.files l.fn.repo;
  tree_place : F.place l.tree ≡ F.place l.fn.tree;
  repo_place : G.place l.repo ≡ G.place l.fn.repo;
  tree_later : F.faults l.fn.tree ≤ F.faults l.tree;
  repo_later : G.faults l.fn.repo ≤ G.faults l.repo;
  in_later : (I.state l.fn.input).faults ≤ (I.state l.input).faults;
  out_later : (O.state l.fn.out).faults ≤ (O.state l.out).faults;
  so_far : (ft fr : Content) (rest : Text) → F.files l.fn.tree ≡ Some ft → G.files l.fn.repo ≡ Some fr → (I.state l.fn.input).left ≡ Some rest
      → Going ft fr (NotOpened l.at.opened) (counts (F.faults l.fn.tree) (G.faults l.fn.repo)) (counts (F.faults l.tree) (G.faults l.repo)) l.at.start rest l.jobs l.place (I.state l.input).left (O.state l.fn.out).written (O.state l.out).written;
}
