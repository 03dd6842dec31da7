use Rattle.std.proofs.Common.{◌≡◌, ◌+◌, ◌∙◌, ◌≤◌, ℕ, suc, add-one, arith, refl, sym, subst, Result}
use Rattle.std.proofs.Math.Nat.{le_refl}
use Rattle.base_model.specs.Steps.{ArchivePush}
use Rattle.archive_store.specs.Still.{rests_none}
use Rattle.base_crash_lists.proofs.Stays.{rests_beside, beside_on}
use Rattle.cmd_types.specs.declared.stages.plan.SyncScope.TheVariants.{Whole}
use Rattle.cmd_types.specs.DisksEffect.{DoesPart, DoesWhole}
use Rattle.cmd_rehearse.specs.Advancing.{Advances}
use Rattle.cmd_rehearse.specs.Commands.{pushed, segment_named}
use Rattle.cmd_rehearse.proofs.Pushes.{Advanced, nothing_pushed, one_part, one_more, pushes_stop, err_as}
use Rattle.base_devices.specs.Cause.{Rises}
use Rattle.cmd_types.specs.declared.stages.object.Object.TheVariants.{Repo}
use Rattle.cmd_types.specs.Halts.{HaltCause, Only}
use Rattle.cmd_backup_common.proofs.Beginnings.{halt_as, ends_with}
use Rattle.cmd_rehearse.specs.Causes.{StepCause, PushesCause}
use Rattle.cmd_rehearse.proofs.Failing.{only_in}
use Rattle.cmd_rehearse.proofs.segment_pushes.push_segments.Goals as goal

pub loop-before-init : goal.loop-before-init
loop-before-init g c =
    let a = (g.D.Disk.state c.args.repo.now).view in
    record {
      advanced = λ k is current. nothing_pushed c.args.stanza.now a;
      current = λ k current some. current;
      known = λ some. some;
      beside = rests_beside c.args.stanza.now a a (rests_none a) refl;
      frame = record { opened = refl; proper = refl; later = le_refl (g.D.Disk.state c.args.repo.now).faults };
    }

-- the segment of this number, however it is given
as_suc : (P : ℕ → Type 0) (n : ℕ) → P (n + 1) → P (suc n)
as_suc P n h = subst P (add-one n) h

pub returns-in_err-push_one-clause-advances : goal.returns-in_err-push_one-clause-advances
returns-in_err-push_one-clause-advances g c = λ k is current.
    let a = (g.D.Disk.state c.args.repo.now).view in
    let m = (g.D.Disk.state c.loop-before.repo).view in
    let d = (g.D.Disk.state c.push_one.new.repo).view in
    let n = c.loop-before.before in
    let stanza = c.args.stanza.now in
    err_as (λ (r : Result _ _). Advances stanza (pushed c.args.count) r a d) c.from_residual.result _ c.from_residual.ensures.1
    (pushes_stop stanza (suc n) c.args.count _ a d (omega arith)
    (one_part stanza n a m d (c.loop-before.invariant.advanced k is current)
    (λ some. as_suc (λ (x : ℕ). DoesPart Whole stanza (ArchivePush (segment_named x)) m d) n (c.push_one.ensures.part k is (c.loop-before.invariant.current k current some)))))

pub returns-in_err-push_one-clause-beside : goal.returns-in_err-push_one-clause-beside
returns-in_err-push_one-clause-beside g c = beside_on c.args.stanza.now (g.D.Disk.state c.args.repo.now).view (g.D.Disk.state c.loop-before.repo).view (g.D.Disk.state c.push_one.new.repo).view c.loop-before.invariant.beside c.push_one.ensures.beside

pub loop-before-preserved : goal.loop-before-preserved
loop-before-preserved g c =
    let a = (g.D.Disk.state c.args.repo.now).view in
    let m = (g.D.Disk.state c.loop-before.repo).view in
    let d = (g.D.Disk.state c.push_one.new.repo).view in
    let n = c.loop-before.before in
    let stanza = c.args.stanza.now in
    let i = c.loop-before.invariant in
    record {
      advanced = λ k is current. subst (λ (x : ℕ). Advanced stanza (pushed x) a d) (sym (add-one n))
          (one_more stanza n a m d (i.advanced k is current)
          (λ some. as_suc (λ (x : ℕ). DoesPart Whole stanza (ArchivePush (segment_named x)) m d) n (c.push_one.ensures.part k is (i.current k current some)))
          (λ some. as_suc (λ (x : ℕ). DoesWhole Whole stanza (ArchivePush (segment_named x)) m d) n (c.in_ok-push_one.ensures.whole k is (i.current k current some))));
      current = λ k current some. c.push_one.ensures.current k (i.current k current some) (i.known some);
      known = λ some. c.push_one.ensures.known (i.known some);
      beside = beside_on stanza a m d i.beside c.push_one.ensures.beside;
      frame = record {
        opened = c.push_one.ensures.frame.opened ∙ i.frame.opened;
        proper = c.push_one.ensures.frame.proper ∙ i.frame.proper;
        later = omega (arith, i.frame.later, c.push_one.ensures.frame.later);
      };
    }

pub returns-clause-advances : goal.returns-clause-advances
returns-clause-advances g c = λ k is current.
    let h = c.loop-before.invariant.advanced k is current in
    let e : c.loop-before.before ≡ c.args.count = omega arith in
    let P = λ (n : ℕ). Advanced c.args.stanza.now (pushed n) (g.D.Disk.state c.args.repo.now).view (g.D.Disk.state c.loop-before.repo).view in
    let x = subst P e h in
    record { part = x.part; whole = x.whole; sound = x.sound }

pub returns-in_err-push_one-clause-cause : goal.returns-in_err-push_one-clause-cause
returns-in_err-push_one-clause-cause g c = λ k is current.
    let stanza = c.args.stanza.now in
    let a = g.D.Disk.state c.args.repo.now in
    let m = g.D.Disk.state c.loop-before.repo in
    let d = g.D.Disk.state c.push_one.new.repo in
    let n = c.loop-before.before in
    let le : n ≤ c.args.count = omega arith in
    ends_with (HaltCause (PushesCause stanza c.args.count a.view.now) (Only Repo (Rises a.faults d.faults))) c.from_residual.result c.in_err-push_one.field-0.0 c.from_residual.ensures.1
    (halt_as (StepCause stanza m.view.now) (PushesCause stanza c.args.count a.view.now) (Only Repo (Rises m.faults d.faults)) (Only Repo (Rises a.faults d.faults))
    (λ e h. (n, le, record { now = m.view.now; done = (c.loop-before.invariant.advanced k is current).whole.done; holds = h }))
    (only_in a.faults m.faults d.faults d.faults c.loop-before.invariant.frame.later (le_refl d.faults))
    c.in_err-push_one.field-0.0 c.in_err-push_one.ensures.cause)
