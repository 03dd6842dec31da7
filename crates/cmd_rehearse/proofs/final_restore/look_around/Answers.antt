use Rattle.std.proofs.Math.Nat.{le_refl}
use Rattle.std.proofs.Common.{◌∙◌, arith, subst, Option}
use Rattle.base_devices.specs.Cause.{Rises}
use Rattle.base_devices.specs.Content.{Content}
use Rattle.base_devices.proofs.States.{looks_on}
use Rattle.cmd_types.specs.declared.stages.object.Object.TheVariants.{Repo}
use Rattle.cmd_types.specs.Halts.{HaltCause, Only}
use Rattle.cmd_backup_common.proofs.Beginnings.{halt_as, ends_with}
use Rattle.cmd_verify.specs.Verifying.{IsVerified, EndsWithNone}
use Rattle.cmd_rehearse.specs.declared.backup_totals.Counted.TheVariants.{All}
use Rattle.cmd_rehearse.specs.Causes.{StepCause}
use Rattle.cmd_rehearse.specs.Counting.{ShowsLast}
use Rattle.cmd_rehearse.proofs.Failing.{only_in}
use Rattle.cmd_rehearse.proofs.final_restore.look_around.Goals as goal

pub returns-in_err-kept-clause-cause : goal.returns-in_err-kept-clause-cause
returns-in_err-kept-clause-cause g c =
    let a = g.D.Disk.state c.args.repo.now in
    let d = g.D.Disk.state c.count_stored.new.repo in
    ends_with (HaltCause (StepCause c.args.stanza.now a.view.now) (Only Repo (Rises a.faults d.faults))) c.from_residual.result c.in_err-kept.field-0.0 c.from_residual.ensures.1 c.in_err-kept.ensures.cause

pub returns-in_err-restored-clause-looks : goal.returns-in_err-restored-clause-looks
returns-in_err-restored-clause-looks g c = looks_on (g.D.Disk.state c.args.repo.now) (g.D.Disk.state c.count_stored.new.repo) (g.D.Disk.state c.count_last.new.repo) c.count_stored.ensures.looks c.count_last.ensures.looks

pub returns-in_err-restored-clause-cause : goal.returns-in_err-restored-clause-cause
returns-in_err-restored-clause-cause g c =
    let stanza = c.args.stanza.now in
    let a = g.D.Disk.state c.args.repo.now in
    let m = g.D.Disk.state c.count_stored.new.repo in
    let d = g.D.Disk.state c.count_last.new.repo in
    ends_with (HaltCause (StepCause stanza a.view.now) (Only Repo (Rises a.faults d.faults))) c.from_residual-in_err-restored.result c.in_err-restored.field-0.0 c.from_residual-in_err-restored.ensures.1
    (halt_as (StepCause stanza m.view.now) (StepCause stanza a.view.now) (Only Repo (Rises m.faults d.faults)) (Only Repo (Rises a.faults d.faults))
    (λ e h. subst (λ (o : Option Content). StepCause stanza o e) c.count_stored.ensures.looks.now h)
    (only_in a.faults m.faults d.faults d.faults c.count_stored.ensures.looks.later (le_refl d.faults))
    c.in_err-restored.field-0.0 c.in_err-restored.ensures.cause)

pub returns-in_err-found-clause-looks : goal.returns-in_err-found-clause-looks
returns-in_err-found-clause-looks g c =
    let a = g.D.Disk.state c.args.repo.now in
    let m = g.D.Disk.state c.count_stored.new.repo in
    let n = g.D.Disk.state c.count_last.new.repo in
    looks_on a n (g.D.Disk.state c.verify_all.new.repo) (looks_on a m n c.count_stored.ensures.looks c.count_last.ensures.looks) c.verify_all.ensures.looks

pub returns-in_err-found-clause-cause : goal.returns-in_err-found-clause-cause
returns-in_err-found-clause-cause g c =
    let stanza = c.args.stanza.now in
    let a = g.D.Disk.state c.args.repo.now in
    let m = g.D.Disk.state c.count_stored.new.repo in
    let n = g.D.Disk.state c.count_last.new.repo in
    let d = g.D.Disk.state c.verify_all.new.repo in
    ends_with (HaltCause (StepCause stanza a.view.now) (Only Repo (Rises a.faults d.faults))) c.from_residual-in_err-found.result c.in_err-found.field-0.0 c.from_residual-in_err-found.ensures.1
    (halt_as (StepCause stanza n.view.now) (StepCause stanza a.view.now) (Only Repo (Rises n.faults d.faults)) (Only Repo (Rises a.faults d.faults))
    (λ e h. subst (λ (o : Option Content). StepCause stanza o e) (c.count_last.ensures.looks.now ∙ c.count_stored.ensures.looks.now) h)
    (only_in a.faults n.faults d.faults d.faults (omega (arith, c.count_stored.ensures.looks.later, c.count_last.ensures.looks.later)) (le_refl d.faults))
    c.in_err-found.field-0.0 c.in_err-found.ensures.cause)

pub returns-clause-looks : goal.returns-clause-looks
returns-clause-looks g c =
    let a = g.D.Disk.state c.args.repo.now in
    let m = g.D.Disk.state c.count_stored.new.repo in
    let n = g.D.Disk.state c.count_last.new.repo in
    looks_on a n (g.D.Disk.state c.verify_all.new.repo) (looks_on a m n c.count_stored.ensures.looks c.count_last.ensures.looks) c.verify_all.ensures.looks

pub returns-clause-ended : goal.returns-clause-ended
returns-clause-ended g c =
    let stanza = c.args.stanza.now in
    let first = c.count_stored.ensures.looks.now in
    let both = c.count_last.ensures.looks.now ∙ first in
    record {
      stored = c.in_ok-kept.ensures.stored;
      files = subst (λ (o : Option Content). ShowsLast stanza All o c.in_ok-restored.restored) first c.in_ok-restored.ensures.known;
      examined = subst (λ (o : Option Content). IsVerified stanza o c.in_ok-found.found) both c.in_ok-found.ensures.examined;
      sound = subst (λ (o : Option Content). EndsWithNone stanza o c.in_ok-found.found) both c.in_ok-found.ensures.sound;
    }
