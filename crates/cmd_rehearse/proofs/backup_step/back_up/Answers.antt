use Rattle.std.proofs.Math.Nat.{le_refl}
use Rattle.std.proofs.Common.{◌∙◌, arith, map, take, refl, sym, subst, Result, Ok, Err, Option}
use Rattle.archive_store.specs.Still.{IsStill, still_on}
use Rattle.base_crash_lists.proofs.Stays.{rests_beside, beside_on}
use Rattle.backup_lemmas.proofs.Reading.{no_files}
use Rattle.cmd_backup_offline.specs.Faults.{offline_early}
use Rattle.cmd_rehearse.specs.Advancing.{Advances}
use Rattle.cmd_rehearse.specs.Commands.{backed_up}
use Rattle.cmd_rehearse.proofs.Advanced.{stays_part}
use Rattle.cmd_rehearse.proofs.Pushes.{err_as}
use Rattle.cmd_rehearse.proofs.Taken.{taken_stops, taken_well, after_rests}
use Rattle.base_devices.specs.Cause.{Rises}
use Rattle.base_devices.specs.Content.{Content}
use Rattle.cmd_types.specs.declared.stages.object.Object.TheVariants.{Repo}
use Rattle.cmd_types.specs.Halts.{HaltCause, Only}
use Rattle.cmd_backup_common.specs.Causes.{Before}
use Rattle.cmd_backup_common.proofs.Beginnings.{halt_as, ends_with}
use Rattle.cmd_rehearse.specs.Causes.{LostCause, StepCause, Fails}
use Rattle.cmd_rehearse.specs.Backups.{IsTakenBy}
use Rattle.cmd_rehearse.specs.Commands.{sample}
use Rattle.cmd_rehearse.proofs.Ends.{taken_by}
use Rattle.cmd_rehearse.proofs.Causing.{lost_step, take_fails}
use Rattle.cmd_rehearse.proofs.Failing.{Within, fails_in, repo_in}
use Rattle.cmd_rehearse.proofs.backup_step.back_up.Goals as goal

pub returns-in_err-archive-clause-advances : goal.returns-in_err-archive-clause-advances
returns-in_err-archive-clause-advances g c =
    let a = (g.D.Disk.state c.args.repo.now).view in
    let n = (g.D.Disk.state c.read_archive.new.repo).view in (
      no_files,
      err_as (λ (r : Result _ _). Advances c.args.step.now.stanza.now (backed_up no_files) r a n) c.from_residual.result _ c.from_residual.ensures.1
          (stays_part c.args.step.now.stanza.now (backed_up no_files) _ a n c.read_archive.ensures.looks.time c.read_archive.ensures.looks.now),
    )

pub returns-in_err-backup-clause-advances : goal.returns-in_err-backup-clause-advances
returns-in_err-backup-clause-advances g c =
    let a = (g.D.Disk.state c.args.repo.now).view in
    let m = (g.D.Disk.state c.read_archive.new.repo).view in
    let n = (g.D.Disk.state c.read_backup.new.repo).view in
    let s : IsStill a n = still_on a m n (record { now = c.read_archive.ensures.looks.now; time = c.read_archive.ensures.looks.time }) (record { now = c.read_backup.ensures.looks.now; time = c.read_backup.ensures.looks.time }) in (
      no_files,
      err_as (λ (r : Result _ _). Advances c.args.step.now.stanza.now (backed_up no_files) r a n) c.from_residual-in_err-backup.result _ c.from_residual-in_err-backup.ensures.1
          (stays_part c.args.step.now.stanza.now (backed_up no_files) _ a n s.time s.now),
    )

pub returns-in-Ok-clause-advances : goal.returns-in-Ok-clause-advances
returns-in-Ok-clause-advances g c =
    let a = (g.D.Disk.state c.args.repo.now).view in
    let m = (g.D.Disk.state c.read_archive.new.repo).view in
    let n = (g.D.Disk.state c.read_backup.new.repo).view in
    let d = (g.D.Disk.state c.back_up_offline.new.repo).view in
    let s : IsStill a n = still_on a m n (record { now = c.read_archive.ensures.looks.now; time = c.read_archive.ensures.looks.time }) (record { now = c.read_backup.ensures.looks.now; time = c.read_backup.ensures.looks.time }) in
    let x = taken_well c.args.step.now.kind (take c.args.step.now.take.workers (map g.L.Link.link_state c.args.pool.now.links.items)) c.args.step.now.stanza.now offline_early n d c.in-Ok.field-0 tt _ _ _ _ _ _ c.in-Ok.ensures.taken c.in-Ok.ensures.does in
    (x.0, after_rests c.args.step.now.stanza.now (backed_up x.0) a n d s.time s.now (Ok tt) x.1)

pub returns-clause-advances : goal.returns-clause-advances
returns-clause-advances g c =
    let a = (g.D.Disk.state c.args.repo.now).view in
    let m = (g.D.Disk.state c.read_archive.new.repo).view in
    let n = (g.D.Disk.state c.read_backup.new.repo).view in
    let d = (g.D.Disk.state c.back_up_offline.new.repo).view in
    let s : IsStill a n = still_on a m n (record { now = c.read_archive.ensures.looks.now; time = c.read_archive.ensures.looks.time }) (record { now = c.read_backup.ensures.looks.now; time = c.read_backup.ensures.looks.time }) in
    let x = taken_stops c.args.step.now.kind (take c.args.step.now.take.workers (map g.L.Link.link_state c.args.pool.now.links.items)) c.args.step.now.stanza.now offline_early n d c.in-Err.halt c.of_offline.result c.in-Err.ensures.does in
    (x.0, after_rests c.args.step.now.stanza.now (backed_up x.0) a n d s.time s.now (Err c.of_offline.result) x.1)

pub returns-in-Ok-clause-beside : goal.returns-in-Ok-clause-beside
returns-in-Ok-clause-beside g c =
    let a = (g.D.Disk.state c.args.repo.now).view in
    let m = (g.D.Disk.state c.read_archive.new.repo).view in
    let n = (g.D.Disk.state c.read_backup.new.repo).view in
    let s : IsStill a n = still_on a m n (record { now = c.read_archive.ensures.looks.now; time = c.read_archive.ensures.looks.time }) (record { now = c.read_backup.ensures.looks.now; time = c.read_backup.ensures.looks.time }) in
    beside_on c.args.step.now.stanza.now a n (g.D.Disk.state c.back_up_offline.new.repo).view (rests_beside c.args.step.now.stanza.now a n s.time s.now) c.back_up_offline.ensures.beside

pub returns-clause-beside : goal.returns-clause-beside
returns-clause-beside g c =
    let a = (g.D.Disk.state c.args.repo.now).view in
    let m = (g.D.Disk.state c.read_archive.new.repo).view in
    let n = (g.D.Disk.state c.read_backup.new.repo).view in
    let s : IsStill a n = still_on a m n (record { now = c.read_archive.ensures.looks.now; time = c.read_archive.ensures.looks.time }) (record { now = c.read_backup.ensures.looks.now; time = c.read_backup.ensures.looks.time }) in
    beside_on c.args.step.now.stanza.now a n (g.D.Disk.state c.back_up_offline.new.repo).view (rests_beside c.args.step.now.stanza.now a n s.time s.now) c.back_up_offline.ensures.beside

pub returns-in_err-archive-clause-cause : goal.returns-in_err-archive-clause-cause
returns-in_err-archive-clause-cause g c =
    let stanza = c.args.step.now.stanza.now in
    let a = g.D.Disk.state c.args.repo.now in
    let n = g.D.Disk.state c.read_archive.new.repo in
    let t = (g.T.DataFolder.state c.args.tree.now).faults in
    let x = (g.C.Clock.state c.args.clock.now).faults in
    let within : Within a.faults a.faults n.faults n.faults t t t t x x x x = record { repo = le_refl a.faults; repo_after = le_refl n.faults; tree = le_refl t; tree_after = le_refl t; clock = le_refl x; clock_behind = le_refl x } in
    ends_with (HaltCause (StepCause stanza a.view.now) (Fails a.faults n.faults t t x x)) c.from_residual.result c.in_err-archive.field-0.0 c.from_residual.ensures.1
    (halt_as (LostCause stanza a.view.now) (StepCause stanza a.view.now) (Only Repo (Rises a.faults n.faults)) (Fails a.faults n.faults t t x x) (lost_step stanza a.view.now)
    (repo_in a.faults a.faults n.faults n.faults t t t t x x x x within)
    c.in_err-archive.field-0.0 c.in_err-archive.ensures.cause)

pub returns-in_err-backup-clause-cause : goal.returns-in_err-backup-clause-cause
returns-in_err-backup-clause-cause g c =
    let stanza = c.args.step.now.stanza.now in
    let a = g.D.Disk.state c.args.repo.now in
    let m = g.D.Disk.state c.read_archive.new.repo in
    let n = g.D.Disk.state c.read_backup.new.repo in
    let t = (g.T.DataFolder.state c.args.tree.now).faults in
    let x = (g.C.Clock.state c.args.clock.now).faults in
    let within : Within a.faults m.faults n.faults n.faults t t t t x x x x = record { repo = c.read_archive.ensures.looks.later; repo_after = le_refl n.faults; tree = le_refl t; tree_after = le_refl t; clock = le_refl x; clock_behind = le_refl x } in
    ends_with (HaltCause (StepCause stanza a.view.now) (Fails a.faults n.faults t t x x)) c.from_residual-in_err-backup.result c.in_err-backup.field-0.0 c.from_residual-in_err-backup.ensures.1
    (halt_as (LostCause stanza m.view.now) (StepCause stanza a.view.now) (Only Repo (Rises m.faults n.faults)) (Fails a.faults n.faults t t x x)
    (λ e h. lost_step stanza a.view.now e (subst (λ (o : Option Content). LostCause stanza o e) c.read_archive.ensures.looks.now h))
    (repo_in a.faults m.faults n.faults n.faults t t t t x x x x within)
    c.in_err-backup.field-0.0 c.in_err-backup.ensures.cause)

pub returns-clause-cause : goal.returns-clause-cause
returns-clause-cause g c =
    let stanza = c.args.step.now.stanza.now in
    let a = g.D.Disk.state c.args.repo.now in
    let m = g.D.Disk.state c.read_archive.new.repo in
    let n = g.D.Disk.state c.read_backup.new.repo in
    let d = g.D.Disk.state c.back_up_offline.new.repo in
    let t = (g.T.DataFolder.state c.args.tree.now).faults in
    let w = (g.T.DataFolder.state c.back_up_offline.new.tree).faults in
    let x = (g.C.Clock.state c.args.clock.now).faults in
    let q = (g.C.Clock.state c.back_up_offline.new.clock).faults in
    let b : Before = record { stanza = stanza; known = sample; repo = n.view.now; nodes = (g.T.DataFolder.state c.args.tree.now).nodes; least = (g.C.Clock.state c.args.clock.now).least; used = take c.args.step.now.take.workers (map g.L.Link.link_state c.args.pool.now.links.items) } in
    let within : Within a.faults n.faults d.faults d.faults t t w w x x q q = record { repo = omega (arith, c.read_archive.ensures.looks.later, c.read_backup.ensures.looks.later); repo_after = le_refl d.faults; tree = le_refl t; tree_after = le_refl w; clock = le_refl x; clock_behind = le_refl q } in
    let F = Fails n.faults d.faults t w x q in
    subst (HaltCause (StepCause stanza a.view.now) (Fails a.faults d.faults t w x q)) (sym c.of_offline.ensures)
    (halt_as (StepCause stanza a.view.now) (StepCause stanza a.view.now) F (Fails a.faults d.faults t w x q) (λ e h. h) (fails_in a.faults n.faults d.faults d.faults t t w w x x q q within) _
    (take_fails stanza b _ a.view.now F refl refl (c.read_backup.ensures.looks.now ∙ c.read_archive.ensures.looks.now) c.in-Err.halt c.in-Err.ensures.cause))

pub returns-in-Ok-clause-taken : goal.returns-in-Ok-clause-taken
returns-in-Ok-clause-taken g c =
    let looks = c.read_backup.ensures.looks.now ∙ c.read_archive.ensures.looks.now in
    let d = (g.D.Disk.state c.back_up_offline.new.repo).view.now in
    let x = taken_by _ _ _ _ _ _ _ _ c.in-Ok.field-0 c.in-Ok.ensures.taken in
    subst (λ (o : Option Content). IsTakenBy c.args.step.now.stanza.now c.args.step.now.kind o d) looks x
