use Rattle.std.proofs.Math.Nat.{le_refl}
use Rattle.std.proofs.Common.{◌*◌, Result, Ok, Err, arith, refl, sym, subst}
use Rattle.std.specs.Prelude.{IfOk}
use Rattle.base_devices.specs.Cause.{Rises}
use Rattle.base_model.specs.declared.labels.BackupKind.TheVariants.{Full, Incr}
use Rattle.base_model.specs.Steps.{Expire}
use Rattle.base_crash_lists.proofs.Stays.{beside_on}
use Rattle.backup_lemmas.proofs.Reading.{no_files}
use Rattle.cmd_types.specs.declared.stages.halt.Halt.{Halt}
use Rattle.cmd_types.specs.declared.stages.object.Object.TheVariants.{Repo, TheDataFolder}
use Rattle.cmd_types.specs.Halts.{HaltCause, Only}
use Rattle.cmd_backup_common.proofs.Beginnings.{halt_as, ends_with as ends_by}
use Rattle.cmd_rehearse.specs.declared.backup_totals.Amount.{Amount}
use Rattle.cmd_rehearse.specs.declared.backup_totals.Counted.TheVariants.{Own, Filled}
use Rattle.cmd_rehearse.specs.declared.cluster_life.Lived.{Lived}
use Rattle.cmd_rehearse.specs.declared.fault.StepFault.{StepFault}
use Rattle.cmd_rehearse.specs.Advancing.{Carries}
use Rattle.cmd_rehearse.specs.Backups.{IsTakenBy, IsStep}
use Rattle.cmd_rehearse.specs.Causes.{StepCause, PartCause, PrefixCause, Fails, Pushing, First, Second, Third}
use Rattle.cmd_rehearse.specs.Commands.{backed_up, prepared, with_first, with_second, with_third, rehearsed, keeps_one}
use Rattle.cmd_rehearse.specs.Rehearsing.{CountsExpired, IsLived}
use Rattle.cmd_rehearse.proofs.Advanced.{carries_err, carries_ok, ends_with, goes_on, stops_between}
use Rattle.cmd_rehearse.proofs.Failing.{Within, fails_in, repo_in, stop_fails, tree_in}
use Rattle.cmd_rehearse.proofs.Prefixes.{had_after, part_cause, prefix_cause}
use Rattle.cmd_rehearse.proofs.Pushes.{err_as}
use Rattle.cmd_rehearse.proofs.Stopping.{in_first, in_preparation, in_second, in_third}
use Rattle.cmd_rehearse.proofs.cluster_life.live.Goals as goal

-- ---- the stanza and its segments

pub returns-in_err-prepare_stanza-clause-lives : goal.returns-in_err-prepare_stanza-clause-lives
returns-in_err-prepare_stanza-clause-lives g c =
    let stanza = c.args.order.now.stanza.now in
    let n = c.args.order.now.number in
    let a = (g.D.Disk.state c.args.repo.now).view in
    let m = (g.D.Disk.state c.prepare_stanza.new.repo).view in
    let s = c.from_residual in (
      no_files,
      no_files,
      no_files,
      err_as (λ (r : Result _ _). Carries stanza (rehearsed n keeps_one no_files no_files no_files) r a m) s.result _ s.ensures.1
          (in_preparation stanza n no_files no_files no_files c.in_err-prepare_stanza.field-0.0 _ a m c.in_err-prepare_stanza.ensures.advances),
      err_as (λ (r : Result Lived (Halt StepFault)). IfOk r (IsLived stanza n no_files no_files no_files a.now)) s.result _ s.ensures.1 tt,
    )

pub returns-in_err-prepare_stanza-clause-cause : goal.returns-in_err-prepare_stanza-clause-cause
returns-in_err-prepare_stanza-clause-cause g c =
    let stanza = c.args.order.now.stanza.now in
    let n = c.args.order.now.number in
    let a = g.D.Disk.state c.args.repo.now in
    let m = g.D.Disk.state c.prepare_stanza.new.repo in
    let t = (g.T.DataFolder.state c.args.tree.now).faults in
    let i = (g.C.Clock.state c.args.clock.now).faults in
    let within : Within a.faults a.faults m.faults m.faults t t t t i i i i = record { repo = le_refl a.faults; repo_after = le_refl m.faults; tree = le_refl t; tree_after = le_refl t; clock = le_refl i; clock_behind = le_refl i } in
    let W = PrefixCause stanza n a.view.now in
    ends_by (HaltCause W (Fails a.faults m.faults t t i i)) c.from_residual.result c.in_err-prepare_stanza.field-0.0 c.from_residual.ensures.1
    (halt_as W W (Only Repo (Rises a.faults m.faults)) (Fails a.faults m.faults t t i i) (λ e h. h) (repo_in a.faults a.faults m.faults m.faults t t t t i i i i within) c.in_err-prepare_stanza.field-0.0 c.in_err-prepare_stanza.ensures.cause)

-- ---- the first backup

pub returns-in_err-first-clause-lives : goal.returns-in_err-first-clause-lives
returns-in_err-first-clause-lives g c =
    let stanza = c.args.order.now.stanza.now in
    let n = c.args.order.now.number in
    let a = (g.D.Disk.state c.args.repo.now).view in
    let m = (g.D.Disk.state c.prepare_stanza.new.repo).view in
    let p = (g.D.Disk.state c.back_up_counted.new.repo).view in
    let one = c.in_err-first.ensures.advances in
    let s = c.from_residual-in_err-first in (
      one.0,
      no_files,
      no_files,
      err_as (λ (r : Result _ _). Carries stanza (rehearsed n keeps_one one.0 no_files no_files) r a p) s.result _ s.ensures.1
          (in_first {T = Amount} stanza n one.0 no_files no_files c.in_err-first.field-0.0 _ a p
          (goes_on {T = Unit {0}} {E = Halt StepFault} stanza (prepared n) (backed_up one.0) a m c.in_ok-prepare_stanza.field-0 (Err c.in_err-first.field-0.0) p c.in_ok-prepare_stanza.ensures.advances one.1)),
      err_as (λ (r : Result Lived (Halt StepFault)). IfOk r (IsLived stanza n one.0 no_files no_files a.now)) s.result _ s.ensures.1 tt,
    )

pub returns-in_err-first-clause-cause : goal.returns-in_err-first-clause-cause
returns-in_err-first-clause-cause g c =
    let stanza = c.args.order.now.stanza.now in
    let n = c.args.order.now.number in
    let a = g.D.Disk.state c.args.repo.now in
    let m = g.D.Disk.state c.prepare_stanza.new.repo in
    let p = g.D.Disk.state c.back_up_counted.new.repo in
    let t = (g.T.DataFolder.state c.args.tree.now).faults in
    let u = (g.T.DataFolder.state c.back_up_counted.new.tree).faults in
    let i = (g.C.Clock.state c.args.clock.now).faults in
    let j = (g.C.Clock.state c.back_up_counted.new.clock).faults in
    let one = c.in_err-first.ensures.advances in
    let r = c.from_residual-in_err-first in
    let within : Within a.faults m.faults p.faults p.faults t t u u i i j j = record { repo = c.prepare_stanza.ensures.frame.later; repo_after = le_refl p.faults; tree = le_refl t; tree_after = le_refl u; clock = le_refl i; clock_behind = le_refl j } in
    ends_by (HaltCause (PrefixCause stanza n a.view.now) (Fails a.faults p.faults t u i j)) r.result c.in_err-first.field-0.0 r.ensures.1
    (halt_as (PartCause stanza (backed_up one.0) m.view.now) (PrefixCause stanza n a.view.now) (Fails m.faults p.faults t u i j) (Fails a.faults p.faults t u i j)
    (part_cause {T = Unit {0}} {E = Halt StepFault} stanza n (prepared n) c.in_ok-prepare_stanza.field-0 a.view m.view c.in_ok-prepare_stanza.ensures.advances one.0 (Pushing (2 * n) (le_refl (2 * n))) (First one.0))
    (fails_in a.faults m.faults p.faults p.faults t t u u i i j j within)
    c.in_err-first.field-0.0 one.2)

pub returns-in_err-first-clause-beside : goal.returns-in_err-first-clause-beside
returns-in_err-first-clause-beside g c =
    let stanza = c.args.order.now.stanza.now in
    let a = (g.D.Disk.state c.args.repo.now).view in
    let m = (g.D.Disk.state c.prepare_stanza.new.repo).view in
    let p = (g.D.Disk.state c.back_up_counted.new.repo).view in
    beside_on stanza a m p c.prepare_stanza.ensures.beside c.back_up_counted.ensures.beside

-- ---- the cluster's growth

pub returns-in-Err-clause-lives : goal.returns-in-Err-clause-lives
returns-in-Err-clause-lives g c =
    let stanza = c.args.order.now.stanza.now in
    let n = c.args.order.now.number in
    let a = (g.D.Disk.state c.args.repo.now).view in
    let m = (g.D.Disk.state c.prepare_stanza.new.repo).view in
    let p = (g.D.Disk.state c.back_up_counted.new.repo).view in
    let one = c.in_ok-first.ensures.advances in
    let first = goes_on {T = Unit {0}} {E = Halt StepFault} stanza (prepared n) (backed_up one.0) a m c.in_ok-prepare_stanza.field-0 (Ok c.in_ok-first.first) p c.in_ok-prepare_stanza.ensures.advances one.1 in (
      one.0,
      no_files,
      no_files,
      in_second {T = Amount} stanza n one.0 no_files no_files c.halted.result c.halted.result a p
          (stops_between stanza (with_first n one.0) (backed_up no_files) c.in_ok-first.first c.halted.result a p first),
      tt,
    )

pub returns-in-Err-clause-cause : goal.returns-in-Err-clause-cause
returns-in-Err-clause-cause g c =
    let stanza = c.args.order.now.stanza.now in
    let n = c.args.order.now.number in
    let a = g.D.Disk.state c.args.repo.now in
    let m = g.D.Disk.state c.prepare_stanza.new.repo in
    let p = g.D.Disk.state c.back_up_counted.new.repo in
    let t = (g.T.DataFolder.state c.args.tree.now).faults in
    let u = (g.T.DataFolder.state c.back_up_counted.new.tree).faults in
    let v = (g.T.DataFolder.state c.grow_cluster.new.tree).faults in
    let i = (g.C.Clock.state c.args.clock.now).faults in
    let j = (g.C.Clock.state c.back_up_counted.new.clock).faults in
    let within : Within a.faults a.faults p.faults p.faults t u v v i i j j = record { repo = le_refl a.faults; repo_after = le_refl p.faults; tree = c.back_up_counted.ensures.looks.later; tree_after = le_refl v; clock = le_refl i; clock_behind = le_refl j } in
    let W = PrefixCause stanza n a.view.now in
    subst (HaltCause W (Fails a.faults p.faults t v i j)) (sym c.halted.ensures)
    (halt_as W W (Only TheDataFolder (Rises u v)) (Fails a.faults p.faults t v i j) (λ e h. h) (tree_in a.faults a.faults p.faults p.faults t u v v i i j j within) _
    (stop_fails W u v _ c.in-Err.error refl c.in-Err.ensures.cause))

pub returns-in-Err-clause-beside : goal.returns-in-Err-clause-beside
returns-in-Err-clause-beside g c =
    let stanza = c.args.order.now.stanza.now in
    let a = (g.D.Disk.state c.args.repo.now).view in
    let m = (g.D.Disk.state c.prepare_stanza.new.repo).view in
    let p = (g.D.Disk.state c.back_up_counted.new.repo).view in
    beside_on stanza a m p c.prepare_stanza.ensures.beside c.back_up_counted.ensures.beside

-- ---- the second backup

pub returns-in_err-second-clause-lives : goal.returns-in_err-second-clause-lives
returns-in_err-second-clause-lives g c =
    let stanza = c.args.order.now.stanza.now in
    let n = c.args.order.now.number in
    let a = (g.D.Disk.state c.args.repo.now).view in
    let m = (g.D.Disk.state c.prepare_stanza.new.repo).view in
    let p = (g.D.Disk.state c.back_up_counted.new.repo).view in
    let q = (g.D.Disk.state c.back_up_counted-2.new.repo).view in
    let one = c.in_ok-first.ensures.advances in
    let two = c.in_err-second.ensures.advances in
    let first = goes_on {T = Unit {0}} {E = Halt StepFault} stanza (prepared n) (backed_up one.0) a m c.in_ok-prepare_stanza.field-0 (Ok c.in_ok-first.first) p c.in_ok-prepare_stanza.ensures.advances one.1 in
    let s = c.from_residual-in_err-second in (
      one.0,
      two.0,
      no_files,
      err_as (λ (r : Result _ _). Carries stanza (rehearsed n keeps_one one.0 two.0 no_files) r a q) s.result _ s.ensures.1
          (in_second {T = Amount} stanza n one.0 two.0 no_files c.in_err-second.field-0.0 _ a q
          (goes_on {T = Amount} {E = Halt StepFault} stanza (with_first n one.0) (backed_up two.0) a p c.in_ok-first.first (Err c.in_err-second.field-0.0) q first two.1)),
      err_as (λ (r : Result Lived (Halt StepFault)). IfOk r (IsLived stanza n one.0 two.0 no_files a.now)) s.result _ s.ensures.1 tt,
    )

pub returns-in_err-second-clause-cause : goal.returns-in_err-second-clause-cause
returns-in_err-second-clause-cause g c =
    let stanza = c.args.order.now.stanza.now in
    let n = c.args.order.now.number in
    let a = g.D.Disk.state c.args.repo.now in
    let m = g.D.Disk.state c.prepare_stanza.new.repo in
    let p = g.D.Disk.state c.back_up_counted.new.repo in
    let q = g.D.Disk.state c.back_up_counted-2.new.repo in
    let t = (g.T.DataFolder.state c.args.tree.now).faults in
    let u = (g.T.DataFolder.state c.back_up_counted.new.tree).faults in
    let v = (g.T.DataFolder.state c.grow_cluster.new.tree).faults in
    let w = (g.T.DataFolder.state c.back_up_counted-2.new.tree).faults in
    let i = (g.C.Clock.state c.args.clock.now).faults in
    let j = (g.C.Clock.state c.back_up_counted.new.clock).faults in
    let k = (g.C.Clock.state c.back_up_counted-2.new.clock).faults in
    let one = c.in_ok-first.ensures.advances in
    let two = c.in_err-second.ensures.advances in
    let first = goes_on {T = Unit {0}} {E = Halt StepFault} stanza (prepared n) (backed_up one.0) a.view m.view c.in_ok-prepare_stanza.field-0 (Ok c.in_ok-first.first) p.view c.in_ok-prepare_stanza.ensures.advances one.1 in
    let r = c.from_residual-in_err-second in
    let within : Within a.faults p.faults q.faults q.faults t v w w i j k k = record {
      repo = omega (arith, c.prepare_stanza.ensures.frame.later, c.back_up_counted.ensures.frame.later);
      repo_after = le_refl q.faults;
      tree = omega (arith, c.back_up_counted.ensures.looks.later, c.grow_cluster.ensures.cause.later);
      tree_after = le_refl w;
      clock = c.back_up_counted.ensures.later;
      clock_behind = le_refl k;
    } in
    ends_by (HaltCause (PrefixCause stanza n a.view.now) (Fails a.faults q.faults t w i k)) r.result c.in_err-second.field-0.0 r.ensures.1
    (halt_as (PartCause stanza (backed_up two.0) p.view.now) (PrefixCause stanza n a.view.now) (Fails p.faults q.faults v w j k) (Fails a.faults q.faults t w i k)
    (part_cause {E = Halt StepFault} stanza n (with_first n one.0) c.in_ok-first.first a.view p.view first two.0 (First one.0) (Second one.0 two.0))
    (fails_in a.faults p.faults q.faults q.faults t v w w i j k k within)
    c.in_err-second.field-0.0 two.2)

pub returns-in_err-second-clause-beside : goal.returns-in_err-second-clause-beside
returns-in_err-second-clause-beside g c =
    let stanza = c.args.order.now.stanza.now in
    let a = (g.D.Disk.state c.args.repo.now).view in
    let m = (g.D.Disk.state c.prepare_stanza.new.repo).view in
    let p = (g.D.Disk.state c.back_up_counted.new.repo).view in
    let q = (g.D.Disk.state c.back_up_counted-2.new.repo).view in
    beside_on stanza a p q (beside_on stanza a m p c.prepare_stanza.ensures.beside c.back_up_counted.ensures.beside) c.back_up_counted-2.ensures.beside

-- ---- the third backup

pub returns-in_err-third-clause-lives : goal.returns-in_err-third-clause-lives
returns-in_err-third-clause-lives g c =
    let stanza = c.args.order.now.stanza.now in
    let n = c.args.order.now.number in
    let a = (g.D.Disk.state c.args.repo.now).view in
    let m = (g.D.Disk.state c.prepare_stanza.new.repo).view in
    let p = (g.D.Disk.state c.back_up_counted.new.repo).view in
    let q = (g.D.Disk.state c.back_up_counted-2.new.repo).view in
    let z = (g.D.Disk.state c.back_up_counted-3.new.repo).view in
    let one = c.in_ok-first.ensures.advances in
    let two = c.in_ok-second.ensures.advances in
    let three = c.in_err-third.ensures.advances in
    let first = goes_on {T = Unit {0}} {E = Halt StepFault} stanza (prepared n) (backed_up one.0) a m c.in_ok-prepare_stanza.field-0 (Ok c.in_ok-first.first) p c.in_ok-prepare_stanza.ensures.advances one.1 in
    let second = goes_on {T = Amount} {E = Halt StepFault} stanza (with_first n one.0) (backed_up two.0) a p c.in_ok-first.first (Ok c.in_ok-second.second) q first two.1 in
    let s = c.from_residual-in_err-third in (
      one.0,
      two.0,
      three.0,
      err_as (λ (r : Result _ _). Carries stanza (rehearsed n keeps_one one.0 two.0 three.0) r a z) s.result _ s.ensures.1
          (in_third {T = Amount} stanza n one.0 two.0 three.0 c.in_err-third.field-0.0 _ a z
          (goes_on {T = Amount} {E = Halt StepFault} stanza (with_second n one.0 two.0) (backed_up three.0) a q c.in_ok-second.second (Err c.in_err-third.field-0.0) z second three.1)),
      err_as (λ (r : Result Lived (Halt StepFault)). IfOk r (IsLived stanza n one.0 two.0 three.0 a.now)) s.result _ s.ensures.1 tt,
    )

pub returns-in_err-third-clause-cause : goal.returns-in_err-third-clause-cause
returns-in_err-third-clause-cause g c =
    let stanza = c.args.order.now.stanza.now in
    let n = c.args.order.now.number in
    let a = g.D.Disk.state c.args.repo.now in
    let m = g.D.Disk.state c.prepare_stanza.new.repo in
    let p = g.D.Disk.state c.back_up_counted.new.repo in
    let q = g.D.Disk.state c.back_up_counted-2.new.repo in
    let z = g.D.Disk.state c.back_up_counted-3.new.repo in
    let t = (g.T.DataFolder.state c.args.tree.now).faults in
    let u = (g.T.DataFolder.state c.back_up_counted.new.tree).faults in
    let v = (g.T.DataFolder.state c.grow_cluster.new.tree).faults in
    let w = (g.T.DataFolder.state c.back_up_counted-2.new.tree).faults in
    let x = (g.T.DataFolder.state c.back_up_counted-3.new.tree).faults in
    let i = (g.C.Clock.state c.args.clock.now).faults in
    let j = (g.C.Clock.state c.back_up_counted.new.clock).faults in
    let k = (g.C.Clock.state c.back_up_counted-2.new.clock).faults in
    let l = (g.C.Clock.state c.back_up_counted-3.new.clock).faults in
    let one = c.in_ok-first.ensures.advances in
    let two = c.in_ok-second.ensures.advances in
    let three = c.in_err-third.ensures.advances in
    let first = goes_on {T = Unit {0}} {E = Halt StepFault} stanza (prepared n) (backed_up one.0) a.view m.view c.in_ok-prepare_stanza.field-0 (Ok c.in_ok-first.first) p.view c.in_ok-prepare_stanza.ensures.advances one.1 in
    let second = goes_on {T = Amount} {E = Halt StepFault} stanza (with_first n one.0) (backed_up two.0) a.view p.view c.in_ok-first.first (Ok c.in_ok-second.second) q.view first two.1 in
    let s = c.from_residual-in_err-third in
    let within : Within a.faults q.faults z.faults z.faults t w x x i k l l = record {
      repo = omega (arith, c.prepare_stanza.ensures.frame.later, c.back_up_counted.ensures.frame.later, c.back_up_counted-2.ensures.frame.later);
      repo_after = le_refl z.faults;
      tree = omega (arith, c.back_up_counted.ensures.looks.later, c.grow_cluster.ensures.cause.later, c.back_up_counted-2.ensures.looks.later);
      tree_after = le_refl x;
      clock = omega (arith, c.back_up_counted.ensures.later, c.back_up_counted-2.ensures.later);
      clock_behind = le_refl l;
    } in
    ends_by (HaltCause (PrefixCause stanza n a.view.now) (Fails a.faults z.faults t x i l)) s.result c.in_err-third.field-0.0 s.ensures.1
    (halt_as (PartCause stanza (backed_up three.0) q.view.now) (PrefixCause stanza n a.view.now) (Fails q.faults z.faults w x k l) (Fails a.faults z.faults t x i l)
    (part_cause {E = Halt StepFault} stanza n (with_second n one.0 two.0) c.in_ok-second.second a.view q.view second three.0 (Second one.0 two.0) (Third one.0 two.0 three.0))
    (fails_in a.faults q.faults z.faults z.faults t w x x i k l l within)
    c.in_err-third.field-0.0 three.2)

pub returns-in_err-third-clause-beside : goal.returns-in_err-third-clause-beside
returns-in_err-third-clause-beside g c =
    let stanza = c.args.order.now.stanza.now in
    let a = (g.D.Disk.state c.args.repo.now).view in
    let m = (g.D.Disk.state c.prepare_stanza.new.repo).view in
    let p = (g.D.Disk.state c.back_up_counted.new.repo).view in
    let q = (g.D.Disk.state c.back_up_counted-2.new.repo).view in
    let z = (g.D.Disk.state c.back_up_counted-3.new.repo).view in
    beside_on stanza a q z (beside_on stanza a p q (beside_on stanza a m p c.prepare_stanza.ensures.beside c.back_up_counted.ensures.beside) c.back_up_counted-2.ensures.beside) c.back_up_counted-3.ensures.beside

-- ---- the expiry

pub returns-in_err-expired-clause-lives : goal.returns-in_err-expired-clause-lives
returns-in_err-expired-clause-lives g c =
    let stanza = c.args.order.now.stanza.now in
    let n = c.args.order.now.number in
    let a = (g.D.Disk.state c.args.repo.now).view in
    let m = (g.D.Disk.state c.prepare_stanza.new.repo).view in
    let p = (g.D.Disk.state c.back_up_counted.new.repo).view in
    let q = (g.D.Disk.state c.back_up_counted-2.new.repo).view in
    let z = (g.D.Disk.state c.back_up_counted-3.new.repo).view in
    let d = (g.D.Disk.state c.let_go.new.repo).view in
    let one = c.in_ok-first.ensures.advances in
    let two = c.in_ok-second.ensures.advances in
    let three = c.in_ok-third.ensures.advances in
    let first = goes_on {T = Unit {0}} {E = Halt StepFault} stanza (prepared n) (backed_up one.0) a m c.in_ok-prepare_stanza.field-0 (Ok c.in_ok-first.first) p c.in_ok-prepare_stanza.ensures.advances one.1 in
    let second = goes_on {T = Amount} {E = Halt StepFault} stanza (with_first n one.0) (backed_up two.0) a p c.in_ok-first.first (Ok c.in_ok-second.second) q first two.1 in
    let third = goes_on {T = Amount} {E = Halt StepFault} stanza (with_second n one.0 two.0) (backed_up three.0) a q c.in_ok-second.second (Ok c.in_ok-third.third) z second three.1 in
    let s = c.from_residual-in_err-expired in (
      one.0,
      two.0,
      three.0,
      err_as (λ (r : Result _ _). Carries stanza (rehearsed n keeps_one one.0 two.0 three.0) r a d) s.result _ s.ensures.1
          (ends_with {E = Halt StepFault} stanza (with_third n one.0 two.0 three.0) (Expire keeps_one) c.in_ok-third.third (Err c.in_err-expired.field-0.0) a z d third
          (carries_err stanza (Expire keeps_one) c.in_err-expired.field-0.0 c.in_err-expired.field-0.0 z d c.in_err-expired.ensures.carries)),
      err_as (λ (r : Result Lived (Halt StepFault)). IfOk r (IsLived stanza n one.0 two.0 three.0 a.now)) s.result _ s.ensures.1 tt,
    )

pub returns-in_err-expired-clause-cause : goal.returns-in_err-expired-clause-cause
returns-in_err-expired-clause-cause g c =
    let stanza = c.args.order.now.stanza.now in
    let n = c.args.order.now.number in
    let a = g.D.Disk.state c.args.repo.now in
    let m = g.D.Disk.state c.prepare_stanza.new.repo in
    let p = g.D.Disk.state c.back_up_counted.new.repo in
    let q = g.D.Disk.state c.back_up_counted-2.new.repo in
    let z = g.D.Disk.state c.back_up_counted-3.new.repo in
    let d = g.D.Disk.state c.let_go.new.repo in
    let t = (g.T.DataFolder.state c.args.tree.now).faults in
    let u = (g.T.DataFolder.state c.back_up_counted.new.tree).faults in
    let v = (g.T.DataFolder.state c.grow_cluster.new.tree).faults in
    let w = (g.T.DataFolder.state c.back_up_counted-2.new.tree).faults in
    let x = (g.T.DataFolder.state c.back_up_counted-3.new.tree).faults in
    let i = (g.C.Clock.state c.args.clock.now).faults in
    let j = (g.C.Clock.state c.back_up_counted.new.clock).faults in
    let k = (g.C.Clock.state c.back_up_counted-2.new.clock).faults in
    let l = (g.C.Clock.state c.back_up_counted-3.new.clock).faults in
    let one = c.in_ok-first.ensures.advances in
    let two = c.in_ok-second.ensures.advances in
    let three = c.in_ok-third.ensures.advances in
    let first = goes_on {T = Unit {0}} {E = Halt StepFault} stanza (prepared n) (backed_up one.0) a.view m.view c.in_ok-prepare_stanza.field-0 (Ok c.in_ok-first.first) p.view c.in_ok-prepare_stanza.ensures.advances one.1 in
    let second = goes_on {T = Amount} {E = Halt StepFault} stanza (with_first n one.0) (backed_up two.0) a.view p.view c.in_ok-first.first (Ok c.in_ok-second.second) q.view first two.1 in
    let third = goes_on {T = Amount} {E = Halt StepFault} stanza (with_second n one.0 two.0) (backed_up three.0) a.view q.view c.in_ok-second.second (Ok c.in_ok-third.third) z.view second three.1 in
    let s = c.from_residual-in_err-expired in
    let within : Within a.faults z.faults d.faults d.faults t t x x i i l l = record {
      repo = omega (arith, c.prepare_stanza.ensures.frame.later, c.back_up_counted.ensures.frame.later, c.back_up_counted-2.ensures.frame.later, c.back_up_counted-3.ensures.frame.later);
      repo_after = le_refl d.faults;
      tree = le_refl t;
      tree_after = le_refl x;
      clock = le_refl i;
      clock_behind = le_refl l;
    } in
    ends_by (HaltCause (PrefixCause stanza n a.view.now) (Fails a.faults d.faults t x i l)) s.result c.in_err-expired.field-0.0 s.ensures.1
    (halt_as (StepCause stanza z.view.now) (PrefixCause stanza n a.view.now) (Only Repo (Rises z.faults d.faults)) (Fails a.faults d.faults t x i l)
    (prefix_cause {E = Halt StepFault} stanza n (with_third n one.0 two.0 three.0) c.in_ok-third.third a.view z.view third (Third one.0 two.0 three.0))
    (repo_in a.faults z.faults d.faults d.faults t t x x i i l l within)
    c.in_err-expired.field-0.0 c.in_err-expired.ensures.cause)

pub returns-in_err-expired-clause-beside : goal.returns-in_err-expired-clause-beside
returns-in_err-expired-clause-beside g c =
    let stanza = c.args.order.now.stanza.now in
    let a = (g.D.Disk.state c.args.repo.now).view in
    let m = (g.D.Disk.state c.prepare_stanza.new.repo).view in
    let p = (g.D.Disk.state c.back_up_counted.new.repo).view in
    let q = (g.D.Disk.state c.back_up_counted-2.new.repo).view in
    let z = (g.D.Disk.state c.back_up_counted-3.new.repo).view in
    let d = (g.D.Disk.state c.let_go.new.repo).view in
    beside_on stanza a z d (beside_on stanza a q z (beside_on stanza a p q (beside_on stanza a m p c.prepare_stanza.ensures.beside c.back_up_counted.ensures.beside) c.back_up_counted-2.ensures.beside) c.back_up_counted-3.ensures.beside) c.let_go.ensures.beside

-- ---- the end

pub returns-clause-lives : goal.returns-clause-lives
returns-clause-lives g c =
    let stanza = c.args.order.now.stanza.now in
    let n = c.args.order.now.number in
    let a = (g.D.Disk.state c.args.repo.now).view in
    let m = (g.D.Disk.state c.prepare_stanza.new.repo).view in
    let p = (g.D.Disk.state c.back_up_counted.new.repo).view in
    let q = (g.D.Disk.state c.back_up_counted-2.new.repo).view in
    let z = (g.D.Disk.state c.back_up_counted-3.new.repo).view in
    let d = (g.D.Disk.state c.let_go.new.repo).view in
    let one = c.in_ok-first.ensures.advances in
    let two = c.in_ok-second.ensures.advances in
    let three = c.in_ok-third.ensures.advances in
    let first = goes_on {T = Unit {0}} {E = Halt StepFault} stanza (prepared n) (backed_up one.0) a m c.in_ok-prepare_stanza.field-0 (Ok c.in_ok-first.first) p c.in_ok-prepare_stanza.ensures.advances one.1 in
    let second = goes_on {T = Amount} {E = Halt StepFault} stanza (with_first n one.0) (backed_up two.0) a p c.in_ok-first.first (Ok c.in_ok-second.second) q first two.1 in
    let third = goes_on {T = Amount} {E = Halt StepFault} stanza (with_second n one.0 two.0) (backed_up three.0) a q c.in_ok-second.second (Ok c.in_ok-third.third) z second three.1 in (
      one.0,
      two.0,
      three.0,
      ends_with {E = Halt StepFault} stanza (with_third n one.0 two.0 three.0) (Expire keeps_one) c.in_ok-third.third (Ok _) a z d third
          (carries_ok {E = Halt StepFault} stanza (Expire keeps_one) c.in_ok-expired.expired _ z d c.in_ok-expired.ensures.carries),
      record {
        first = had_after {T = Amount} {E = Halt StepFault} stanza (with_first n one.0) c.in_ok-first.first a p (λ now. IsStep stanza (prepared n) Full Own a.now now c.in_ok-first.first) first (record {
          taken = had_after {T = Unit {0}} {E = Halt StepFault} stanza (prepared n) c.in_ok-prepare_stanza.field-0 a m (λ before. IsTakenBy stanza Full before p.now) c.in_ok-prepare_stanza.ensures.advances c.in_ok-first.ensures.taken;
          known = c.in_ok-first.ensures.known;
        });
        second = had_after {T = Amount} {E = Halt StepFault} stanza (with_second n one.0 two.0) c.in_ok-second.second a q (λ now. IsStep stanza (with_first n one.0) Incr Filled a.now now c.in_ok-second.second) second (record {
          taken = had_after {T = Amount} {E = Halt StepFault} stanza (with_first n one.0) c.in_ok-first.first a p (λ before. IsTakenBy stanza Incr before q.now) first c.in_ok-second.ensures.taken;
          known = c.in_ok-second.ensures.known;
        });
        third = had_after {T = Amount} {E = Halt StepFault} stanza (with_third n one.0 two.0 three.0) c.in_ok-third.third a z
            (λ now. IsStep stanza (with_second n one.0 two.0) Full Own a.now now c.in_ok-third.third × CountsExpired stanza now c.in_ok-expired.expired) third (
              record {
                taken = had_after {T = Amount} {E = Halt StepFault} stanza (with_second n one.0 two.0) c.in_ok-second.second a q (λ before. IsTakenBy stanza Full before z.now) second c.in_ok-third.ensures.taken;
                known = c.in_ok-third.ensures.known;
              },
              c.in_ok-expired.ensures.expired,
            );
      },
    )

pub returns-clause-beside : goal.returns-clause-beside
returns-clause-beside g c =
    let stanza = c.args.order.now.stanza.now in
    let a = (g.D.Disk.state c.args.repo.now).view in
    let m = (g.D.Disk.state c.prepare_stanza.new.repo).view in
    let p = (g.D.Disk.state c.back_up_counted.new.repo).view in
    let q = (g.D.Disk.state c.back_up_counted-2.new.repo).view in
    let z = (g.D.Disk.state c.back_up_counted-3.new.repo).view in
    let d = (g.D.Disk.state c.let_go.new.repo).view in
    beside_on stanza a z d (beside_on stanza a q z (beside_on stanza a p q (beside_on stanza a m p c.prepare_stanza.ensures.beside c.back_up_counted.ensures.beside) c.back_up_counted-2.ensures.beside) c.back_up_counted-3.ensures.beside) c.let_go.ensures.beside
