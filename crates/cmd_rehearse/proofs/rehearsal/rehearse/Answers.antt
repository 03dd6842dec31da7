use Rattle.std.proofs.Math.Nat.{le_refl}
use Rattle.std.proofs.Common.{◌≡◌, refl, sym, subst, Result, Ok, Err, Option}
use Rattle.std.specs.Prelude.{IfOk}
use Rattle.base_devices.specs.Cause.{Rises}
use Rattle.base_devices.specs.Content.{Content}
use Rattle.base_crash_lists.proofs.Stays.{rests_beside, beside_on}
use Rattle.backup_lemmas.proofs.Reading.{no_files}
use Rattle.cmd_types.specs.declared.stages.object.Object.TheVariants.{Repo}
use Rattle.cmd_types.specs.declared.stages.plan.SyncScope.TheVariants.{Whole}
use Rattle.cmd_types.specs.Halts.{HaltCause, Only}
use Rattle.cmd_types.specs.Reached.{reached_by}
use Rattle.cmd_types.specs.DisksEffect.{RepoEffect}
use Rattle.cmd_backup_common.proofs.Beginnings.{halt_as, ends_with}
use Rattle.cmd_types.specs.declared.stages.halt.Halt.{Halt}
use Rattle.cmd_types.specs.declared.stages.outcome.Outcome.{Outcome}
use Rattle.cmd_rehearse.specs.declared.fault.RehearseFault.{RehearseFault}
use Rattle.cmd_rehearse.specs.Causes.{PrefixCause, ExistsCause, RehearseCause, Fails}
use Rattle.cmd_rehearse.specs.Commands.{rehearsed, keeps_one}
use Rattle.cmd_rehearse.specs.Faults.{rehearse_early}
use Rattle.cmd_rehearse.specs.Rehearsing.{IsRehearsed, IfEarly}
use Rattle.cmd_rehearse.proofs.Ends.{after_known, went, stopped_does, idle_does}
use Rattle.cmd_rehearse.proofs.Failing.{Within, fails_in, repo_in}
use Rattle.cmd_rehearse.proofs.Prefixes.{step_cause, exists_cause, folder_fails, folder_stays, early_holds, step_early}
use Rattle.cmd_rehearse.proofs.Pushes.{err_as}
use Rattle.cmd_rehearse.proofs.Taken.{after_carries}
use Rattle.cmd_rehearse.proofs.rehearsal.rehearse.Goals as goal

-- ---- the stanza is there

pub returns-in_err-check_new-clause-lives : goal.returns-in_err-check_new-clause-lives
returns-in_err-check_new-clause-lives g c =
    let stanza = c.args.order.now.stanza.now in
    let a = (g.D.Disk.state c.args.repo.now).view in
    let n = (g.D.Disk.state c.check_new.new.repo).view in
    let command = rehearsed c.args.order.now.number keeps_one no_files no_files no_files in (
      no_files,
      no_files,
      no_files,
      err_as (λ (r : Result _ _). RepoEffect Whole stanza command (reached_by rehearse_early r) a n) c.from_residual.result _ c.from_residual.ensures.1
          (idle_does stanza command a n c.check_new.ensures.looks.time c.check_new.ensures.looks.now _),
      err_as (λ (r : Result Outcome (Halt RehearseFault)). IfOk r (IsRehearsed stanza c.args.order.now.number no_files no_files no_files a.now n.now (g.T.DataFolder.state c.args.tree.now).nodes)) c.from_residual.result _ c.from_residual.ensures.1 tt,
    )

pub returns-in_err-check_new-clause-beside : goal.returns-in_err-check_new-clause-beside
returns-in_err-check_new-clause-beside g c = rests_beside c.args.order.now.stanza.now (g.D.Disk.state c.args.repo.now).view (g.D.Disk.state c.check_new.new.repo).view c.check_new.ensures.looks.time c.check_new.ensures.looks.now

pub returns-in_err-check_new-clause-nodes : goal.returns-in_err-check_new-clause-nodes
returns-in_err-check_new-clause-nodes g c =
    let nodes = (g.T.DataFolder.state c.args.tree.now).nodes in
    ends_with (IfEarly (nodes ≡ nodes)) c.from_residual.result c.in_err-check_new.field-0.0 c.from_residual.ensures.1 (early_holds (nodes ≡ nodes) refl c.in_err-check_new.field-0.0)

pub returns-in_err-check_new-clause-cause : goal.returns-in_err-check_new-clause-cause
returns-in_err-check_new-clause-cause g c =
    let stanza = c.args.order.now.stanza.now in
    let number = c.args.order.now.number in
    let a = g.D.Disk.state c.args.repo.now in
    let n = g.D.Disk.state c.check_new.new.repo in
    let nodes = (g.T.DataFolder.state c.args.tree.now).nodes in
    let t = (g.T.DataFolder.state c.args.tree.now).faults in
    let x = (g.C.Clock.state c.args.clock.now).faults in
    let within : Within a.faults a.faults n.faults n.faults t t t t x x x x = record { repo = le_refl a.faults; repo_after = le_refl n.faults; tree = le_refl t; tree_after = le_refl t; clock = le_refl x; clock_behind = le_refl x } in
    ends_with (HaltCause (RehearseCause stanza number a.view.now nodes) (Fails a.faults n.faults t t x x)) c.from_residual.result c.in_err-check_new.field-0.0 c.from_residual.ensures.1
    (halt_as (ExistsCause stanza a.view.now) (RehearseCause stanza number a.view.now nodes) (Only Repo (Rises a.faults n.faults)) (Fails a.faults n.faults t t x x)
    (exists_cause stanza number a.view.now nodes) (repo_in a.faults a.faults n.faults n.faults t t t t x x x x within)
    c.in_err-check_new.field-0.0 c.in_err-check_new.ensures.cause)

-- ---- the folder isn't empty

pub returns-in-Err-clause-lives : goal.returns-in-Err-clause-lives
returns-in-Err-clause-lives g c =
    let stanza = c.args.order.now.stanza.now in
    let a = (g.D.Disk.state c.args.repo.now).view in
    let n = (g.D.Disk.state c.check_new.new.repo).view in
    let command = rehearsed c.args.order.now.number keeps_one no_files no_files no_files in
    (no_files, no_files, no_files, idle_does stanza command a n c.check_new.ensures.looks.time c.check_new.ensures.looks.now c.of_folder.result, tt)

pub returns-in-Err-clause-beside : goal.returns-in-Err-clause-beside
returns-in-Err-clause-beside g c = rests_beside c.args.order.now.stanza.now (g.D.Disk.state c.args.repo.now).view (g.D.Disk.state c.check_new.new.repo).view c.check_new.ensures.looks.time c.check_new.ensures.looks.now

pub returns-in-Err-clause-nodes : goal.returns-in-Err-clause-nodes
returns-in-Err-clause-nodes g c =
    let t = g.T.DataFolder.state c.args.tree.now in
    let w = g.T.DataFolder.state c.make_cluster.new.tree in
    subst (IfEarly (w.nodes ≡ t.nodes)) (sym c.of_folder.ensures) (folder_stays t w c.in-Err.fault c.in-Err.ensures.refused)

pub returns-in-Err-clause-cause : goal.returns-in-Err-clause-cause
returns-in-Err-clause-cause g c =
    let stanza = c.args.order.now.stanza.now in
    let number = c.args.order.now.number in
    let a = g.D.Disk.state c.args.repo.now in
    let n = g.D.Disk.state c.check_new.new.repo in
    let nodes = (g.T.DataFolder.state c.args.tree.now).nodes in
    let t = (g.T.DataFolder.state c.args.tree.now).faults in
    let w = (g.T.DataFolder.state c.make_cluster.new.tree).faults in
    let x = (g.C.Clock.state c.args.clock.now).faults in
    subst (HaltCause (RehearseCause stanza number a.view.now nodes) (Fails a.faults n.faults t w x x)) (sym c.of_folder.ensures)
    (folder_fails stanza number a.view.now nodes a.faults n.faults t w x x c.in-Err.fault c.in-Err.ensures.cause)

-- ---- the steps

pub returns-in-Ok-clause-lives : goal.returns-in-Ok-clause-lives
returns-in-Ok-clause-lives g c =
    let stanza = c.args.order.now.stanza.now in
    let number = c.args.order.now.number in
    let a = (g.D.Disk.state c.args.repo.now).view in
    let n = (g.D.Disk.state c.check_new.new.repo).view in
    let d = (g.D.Disk.state c.go.new.repo).view in
    let nodes = (g.T.DataFolder.state c.go.new.tree).nodes in
    let looks = c.check_new.ensures.looks in
    let x = c.in-Ok.ensures.lives in
    let command = rehearsed number keeps_one x.0 x.1 x.2 in (
      x.0,
      x.1,
      x.2,
      went stanza command a d c.in-Ok.outcome (after_known _ x.4.found c.in-Ok.outcome x.4.lines) (after_carries stanza command a n d looks.time looks.now (Ok c.in-Ok.outcome) x.3),
      subst (λ (o : Option Content). IsRehearsed stanza number x.0 x.1 x.2 o d.now nodes c.in-Ok.outcome) looks.now x.4,
    )

pub returns-in-Ok-clause-beside : goal.returns-in-Ok-clause-beside
returns-in-Ok-clause-beside g c =
    let a = (g.D.Disk.state c.args.repo.now).view in
    let n = (g.D.Disk.state c.check_new.new.repo).view in
    beside_on c.args.order.now.stanza.now a n (g.D.Disk.state c.go.new.repo).view (rests_beside c.args.order.now.stanza.now a n c.check_new.ensures.looks.time c.check_new.ensures.looks.now) c.go.ensures.beside

pub returns-in-Err-go-clause-lives : goal.returns-in-Err-go-clause-lives
returns-in-Err-go-clause-lives g c =
    let stanza = c.args.order.now.stanza.now in
    let number = c.args.order.now.number in
    let a = (g.D.Disk.state c.args.repo.now).view in
    let n = (g.D.Disk.state c.check_new.new.repo).view in
    let d = (g.D.Disk.state c.go.new.repo).view in
    let looks = c.check_new.ensures.looks in
    let halt = c.in-Err-go.halt in
    let x = c.in-Err-go.ensures.lives in
    let command = rehearsed number keeps_one x.0 x.1 x.2 in (
      x.0,
      x.1,
      x.2,
      subst (λ (h : Halt RehearseFault). RepoEffect Whole stanza command (reached_by rehearse_early (Err h)) a d) (sym c.of_step.ensures)
          (stopped_does stanza command a d (PrefixCause stanza number n.now) (g.D.Disk.state c.check_new.new.repo).faults (g.D.Disk.state c.go.new.repo).faults (g.T.DataFolder.state c.make_cluster.new.tree).faults (g.T.DataFolder.state c.go.new.tree).faults (g.C.Clock.state c.args.clock.now).faults (g.C.Clock.state c.go.new.clock).faults halt c.in-Err-go.ensures.cause (after_carries stanza command a n d looks.time looks.now (Err halt) x.3)),
      tt,
    )

pub returns-in-Err-go-clause-beside : goal.returns-in-Err-go-clause-beside
returns-in-Err-go-clause-beside g c =
    let a = (g.D.Disk.state c.args.repo.now).view in
    let n = (g.D.Disk.state c.check_new.new.repo).view in
    beside_on c.args.order.now.stanza.now a n (g.D.Disk.state c.go.new.repo).view (rests_beside c.args.order.now.stanza.now a n c.check_new.ensures.looks.time c.check_new.ensures.looks.now) c.go.ensures.beside

pub returns-in-Err-go-clause-nodes : goal.returns-in-Err-go-clause-nodes
returns-in-Err-go-clause-nodes g c =
    let P = (g.T.DataFolder.state c.go.new.tree).nodes ≡ (g.T.DataFolder.state c.args.tree.now).nodes in
    subst (IfEarly P) (sym c.of_step.ensures) (step_early P c.in-Err-go.halt)

pub returns-in-Err-go-clause-cause : goal.returns-in-Err-go-clause-cause
returns-in-Err-go-clause-cause g c =
    let stanza = c.args.order.now.stanza.now in
    let number = c.args.order.now.number in
    let a = g.D.Disk.state c.args.repo.now in
    let n = g.D.Disk.state c.check_new.new.repo in
    let d = g.D.Disk.state c.go.new.repo in
    let nodes = (g.T.DataFolder.state c.args.tree.now).nodes in
    let t = (g.T.DataFolder.state c.args.tree.now).faults in
    let u = (g.T.DataFolder.state c.make_cluster.new.tree).faults in
    let w = (g.T.DataFolder.state c.go.new.tree).faults in
    let x = (g.C.Clock.state c.args.clock.now).faults in
    let q = (g.C.Clock.state c.go.new.clock).faults in
    let within : Within a.faults n.faults d.faults d.faults t u w w x x q q = record { repo = c.check_new.ensures.looks.later; repo_after = le_refl d.faults; tree = c.make_cluster.ensures.later; tree_after = le_refl w; clock = le_refl x; clock_behind = le_refl q } in
    subst (HaltCause (RehearseCause stanza number a.view.now nodes) (Fails a.faults d.faults t w x q)) (sym c.of_step.ensures)
    (step_cause stanza number a.view.now nodes (Fails a.faults d.faults t w x q) c.in-Err-go.halt
    (halt_as (PrefixCause stanza number n.view.now) (PrefixCause stanza number a.view.now) (Fails n.faults d.faults u w x q) (Fails a.faults d.faults t w x q)
    (λ e h. subst (λ (o : Option Content). PrefixCause stanza number o e) c.check_new.ensures.looks.now h)
    (fails_in a.faults n.faults d.faults d.faults t u w w x x q q within)
    c.in-Err-go.halt c.in-Err-go.ensures.cause))
