use Rattle.std.proofs.Common.{ℕ, subst, ◌∙◌, arith}
use Rattle.worker_process.specs.Serving.{counts, JobsEnd}
use Rattle.worker_process.proofs.Served.{going_more, going_over, going_failed, going_ended}
use Rattle.worker_process.proofs.job_service.serve_jobs.Goals as goal

pub returns-in-Ok-None-clause-served : goal.returns-in-Ok-None-clause-served
returns-in-Ok-None-clause-served g c = λ ft fr rest tree repo left.
    let i = c.loop-jobs.invariant in
    let r = c.in-Ok-None.ensures in
    let so = i.so_far ft fr rest tree repo left in
    going_over ft fr c.args.at.opened (counts (g.F.Files.faults c.args.tree.now) (g.G.Files.faults c.args.repo.now)) (counts (g.F.Files.faults c.loop-jobs.tree) (g.G.Files.faults c.loop-jobs.repo)) (counts (g.F.Files.faults c.serve_next.new.tree) (g.G.Files.faults c.serve_next.new.repo))
    c.args.at.start rest c.loop-jobs.jobs c.loop-jobs.place (g.I.InputFiles.state c.loop-jobs.input).left (g.O.OutputStream.state c.args.out.now).written (g.O.OutputStream.state c.loop-jobs.out).written so (record { tree = r.tree_later; repo = r.repo_later })
    (g.I.InputFiles.state c.serve_next.new.input).left (g.O.OutputStream.state c.serve_next.new.out).written
    (rw c.in-Ok-None.field-0-is at (r.known ft fr so.rest (i.tree ∙ tree) (i.repo ∙ repo) so.left_is))

pub returns-in-Err-clause-served : goal.returns-in-Err-clause-served
returns-in-Err-clause-served g c = λ ft fr rest tree repo left.
    let i = c.loop-jobs.invariant in
    let r = c.in-Err.ensures in
    let so = i.so_far ft fr rest tree repo left in
    going_failed ft fr c.args.at.opened (counts (g.F.Files.faults c.args.tree.now) (g.G.Files.faults c.args.repo.now)) (counts (g.F.Files.faults c.loop-jobs.tree) (g.G.Files.faults c.loop-jobs.repo)) (counts (g.F.Files.faults c.serve_next.new.tree) (g.G.Files.faults c.serve_next.new.repo))
    c.args.at.start rest c.loop-jobs.jobs c.loop-jobs.place (g.I.InputFiles.state c.loop-jobs.input).left (g.O.OutputStream.state c.args.out.now).written (g.O.OutputStream.state c.loop-jobs.out).written so (record { tree = r.tree_later; repo = r.repo_later })
    c.in-Err.fault (g.I.InputFiles.state c.serve_next.new.input).left (g.O.OutputStream.state c.serve_next.new.out).written
    (r.known ft fr so.rest (i.tree ∙ tree) (i.repo ∙ repo) so.left_is)

pub loop-jobs-preserved : goal.loop-jobs-preserved
loop-jobs-preserved g c =
    let i = c.loop-jobs.invariant in
    let r = c.in-Ok-Some.ensures in
    record {
      long = r.room ∙ i.long;
      tree = r.tree ∙ i.tree;
      repo = r.repo ∙ i.repo;
      tree_place = r.tree_place ∙ i.tree_place;
      repo_place = r.repo_place ∙ i.repo_place;
      tree_later = omega (arith, i.tree_later, r.tree_later);
      repo_later = omega (arith, i.repo_later, r.repo_later);
      in_later = omega (arith, i.in_later, r.in_later);
      out_later = omega (arith, i.out_later, r.out_later);
      so_far = λ ft fr rest tree repo left.
          let so = i.so_far ft fr rest tree repo left in
          going_more ft fr c.args.at.opened (counts (g.F.Files.faults c.args.tree.now) (g.G.Files.faults c.args.repo.now)) (counts (g.F.Files.faults c.loop-jobs.tree) (g.G.Files.faults c.loop-jobs.repo)) (counts (g.F.Files.faults c.serve_next.new.tree) (g.G.Files.faults c.serve_next.new.repo))
          c.args.at.start rest c.loop-jobs.jobs c.loop-jobs.place (g.I.InputFiles.state c.loop-jobs.input).left (g.O.OutputStream.state c.args.out.now).written (g.O.OutputStream.state c.loop-jobs.out).written so (record { tree = r.tree_later; repo = r.repo_later })
          c.in-Ok-Some.size c.saturating_add-place.result (g.I.InputFiles.state c.serve_next.new.input).left (g.O.OutputStream.state c.serve_next.new.out).written (omega (arith, c.saturating_add-place.ensures))
          (rw c.in-Ok-Some.field-0-is at (r.known ft fr so.rest (i.tree ∙ tree) (i.repo ∙ repo) so.left_is));
    }

pub returns-clause-served : goal.returns-clause-served
returns-clause-served g c = λ ft fr rest tree repo left.
    let i = c.loop-jobs.invariant in
    let so = i.so_far ft fr rest tree repo left in
    going_ended ft fr c.args.at.opened (counts (g.F.Files.faults c.args.tree.now) (g.G.Files.faults c.args.repo.now)) (counts (g.F.Files.faults c.loop-jobs.tree) (g.G.Files.faults c.loop-jobs.repo))
    c.args.at.start rest c.loop-jobs.jobs c.loop-jobs.place (g.I.InputFiles.state c.loop-jobs.input).left (g.O.OutputStream.state c.args.out.now).written (g.O.OutputStream.state c.loop-jobs.out).written c.end_of_jobs.result so
    (λ begin. subst (λ (n : ℕ). JobsEnd n begin so.rest c.end_of_jobs.result) (omega arith) (c.end_of_jobs.ensures.known begin so.rest so.left_is))
