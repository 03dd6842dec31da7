use Rattle.std.proofs.Common.{◌∙◌, Err, sym, subst}
use Rattle.worker_process.specs.declared.serve_fault.ServeFault.{ServeFault}
use Rattle.worker_protocol.specs.Views.{roots_of}
use Rattle.worker_process.specs.Receiving.{StopsAt}
use Rattle.worker_process.specs.Serving.{counts, Served}
use Rattle.worker_process.proofs.Served.{silent, silent_end, not_opened, served_so, same_counts}
use Rattle.worker_process.proofs.job_service.serve.Goals as goal

pub returns-in-Err-clause-served : goal.returns-in-Err-clause-served
returns-in-Err-clause-served g c = λ ft fr bytes tree repo left.
    let entry = counts (g.F.Files.faults c.args.tree.now) (g.G.Files.faults c.args.repo.now) in
    silent ft fr bytes entry entry (g.F.Files.place c.args.tree.now) (g.G.Files.place c.args.repo.now) c.in-Err.fault (g.O.OutputStream.state c.args.out.now).written (same_counts entry)
    (subst (λ (f : ServeFault). StopsAt 83 0 bytes f) (sym c.in-Err.ensures.only) tt)

pub returns-in-Ok-None-clause-served : goal.returns-in-Ok-None-clause-served
returns-in-Ok-None-clause-served g c = λ ft fr bytes tree repo left.
    let entry = counts (g.F.Files.faults c.args.tree.now) (g.G.Files.faults c.args.repo.now) in
    silent_end ft fr bytes entry (g.F.Files.place c.args.tree.now) (g.G.Files.place c.args.repo.now) (g.O.OutputStream.state c.args.out.now).written (rw c.in-Ok-None.field-0-is at (c.in-Ok-None.ensures.received_reply bytes left)).0

pub returns-in-Err-receive_setup-clause-served : goal.returns-in-Err-receive_setup-clause-served
returns-in-Err-receive_setup-clause-served g c = λ ft fr bytes tree repo left.
    let entry = counts (g.F.Files.faults c.args.tree.now) (g.G.Files.faults c.args.repo.now) in
    silent ft fr bytes entry entry (g.F.Files.place c.args.tree.now) (g.G.Files.place c.args.repo.now) c.in-Err-receive_setup.fault (g.O.OutputStream.state c.args.out.now).written (same_counts entry) (c.in-Err-receive_setup.ensures.received_reply bytes left)

pub returns-in-Err-open_roots-clause-served : goal.returns-in-Err-open_roots-clause-served
returns-in-Err-open_roots-clause-served g c = λ ft fr bytes tree repo left.
    let entry = counts (g.F.Files.faults c.args.tree.now) (g.G.Files.faults c.args.repo.now) in
    let exit = counts (g.F.Files.faults c.open_roots.new.tree) (g.G.Files.faults c.open_roots.new.repo) in
    let old = (g.O.OutputStream.state c.args.out.now).written in
    let r = c.in-Err-open_roots.ensures in
    subst (λ (f : ServeFault). Served ft fr bytes entry exit (g.F.Files.place c.open_roots.new.tree) (g.G.Files.place c.open_roots.new.repo) (Err f) old old) (sym r.only)
    (not_opened ft fr bytes entry exit (g.F.Files.place c.open_roots.new.tree) (g.G.Files.place c.open_roots.new.repo) (roots_of c.in-Ok-Some.received_reply.0) c.in-Ok-Some.received_reply.1 (g.I.InputFiles.state c.receive_setup.new.input).left old
    (record { tree = r.tree_later; repo = r.repo_later }) (rw c.in-Ok-Some.field-0-is at (c.in-Ok-Some.ensures.received_reply bytes left)))

pub returns-clause-served : goal.returns-clause-served
returns-clause-served g c = λ ft fr bytes tree repo left.
    let entry = counts (g.F.Files.faults c.args.tree.now) (g.G.Files.faults c.args.repo.now) in
    let mid = counts (g.F.Files.faults c.open_roots.new.tree) (g.G.Files.faults c.open_roots.new.repo) in
    let exit = counts (g.F.Files.faults c.serve_jobs.new.tree) (g.G.Files.faults c.serve_jobs.new.repo) in
    let r = c.in-Ok-open_roots.ensures in
    let s = c.serve_jobs.ensures in
    let h = rw c.in-Ok-Some.field-0-is at (c.in-Ok-Some.ensures.received_reply bytes left) in
    served_so ft fr bytes entry mid exit (g.F.Files.place c.serve_jobs.new.tree) (g.G.Files.place c.serve_jobs.new.repo) (roots_of c.in-Ok-Some.received_reply.0) c.in-Ok-open_roots.opened c.in-Ok-Some.received_reply.1 (g.I.InputFiles.state c.receive_setup.new.input).left
    c.serve_jobs.result (g.O.OutputStream.state c.args.out.now).written (g.O.OutputStream.state c.serve_jobs.new.out).written (record { tree = r.tree_later; repo = r.repo_later }) (record { tree = s.tree_later; repo = s.repo_later }) h
    (λ is. s.tree_place ∙ r.tree_opened is) (λ is. s.repo_place ∙ r.repo_opened is) r.tree_failed r.repo_failed
    (s.served ft fr h.later (r.tree ∙ tree) (r.repo ∙ repo) h.left_is)
