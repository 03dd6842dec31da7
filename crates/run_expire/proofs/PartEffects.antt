-- What expire's own part did, known of all objects.
use Rattle.std.proofs.Common.{◌≡◌, ℕ, Result, Ok, Err, IfOk, IfErr, refl, sym, subst, ap, Bool, true, false}
use Rattle.std.specs.Prelude.{OnOk}
use Rattle.base_devices.specs.Moments.{View}
use Rattle.base_model.specs.Steps.{Expire}
use Rattle.base_model.specs.Text.{Text}
use Rattle.base_disk.specs.Store.{ChangesOnly}
use Rattle.base_crash_lists.specs.Beside.{StaysBeside}
use Rattle.cmd_types.specs.declared.stages.object.Object.{Object}
use Rattle.cmd_types.specs.declared.stages.halt.Halt.{Halt}
use Rattle.cmd_types.specs.declared.stages.halt.Halt.TheVariants.{Refused, Failed as HaltFailed, NoMemory as HaltMemory}
use Rattle.cmd_types.specs.declared.stages.outcome.Outcome.{Outcome}
use Rattle.cmd_types.specs.declared.stages.plan.SyncScope.TheVariants.{Whole}
use Rattle.cmd_types.specs.Halts.{HaltCause}
use Rattle.cmd_types.specs.Reached.{OnFinished, reached_by}
use Rattle.cmd_types.specs.DisksEffect.{DisksEffect}
use Rattle.cmd_types.specs.World.{World, Failed, AreLater}
use Rattle.cmd_types.proofs.Lifted.{does_runs}
use Rattle.expire_rules.specs.declared.rules.Rules.{Rules}
use Rattle.expire_make.specs.Expiry.{retention}
use Rattle.expire_make.specs.Losing.{MayExpire}
use Rattle.expire_make.proofs.Receipts.{expiry_spool}
use Rattle.cmd_expire.specs.declared.fault.ExpireCommandFault.{ExpireCommandFault}
use Rattle.cmd_expire.specs.Faults.{expire_early, ExpireCommandCause}
use Rattle.cmd_expire.specs.Pruning.{counts_days, Prunes, ShowsMoment, IsExpired}
use Rattle.cmd_expire.proofs.Moments.{moment_from}
use Rattle.cmd_trait.specs.KnownWorld.{KnownWorld, known_world}
use Rattle.cmd_trait.specs.Meaning.{Place, Unless}
use Rattle.cmd_trait.specs.Ends.{ending_of, reached_of}
use Rattle.cmd_trait.specs.Faults.{own_of, of_own}
use Rattle.cmd_trait.specs.CallEffect.{PartEffect, SamePlaces, StaysHealed, Closes}
use Rattle.cmd_trait.proofs.Ends.{own_err}
use Rattle.cmd_trait.proofs.CallEffects.{all_none}
use Rattle.cmd_trait.proofs.PartEffects.{ran_of, all_on, any_err, any_some, spool_kept}
use Rattle.run_expire.specs.Expiring.{Removes, expire_meaning}

removes : (stanza : Text) (rules : Rules) (moment : ℕ) (old new : KnownWorld) (r : Result Outcome (Halt ExpireCommandFault)) → OnOk r (ShowsMoment rules.full old.clock new.clock moment) → IfOk r (λ o. OnFinished o (IsExpired stanza rules moment old.repo new.repo)) →
    IfOk r (Removes stanza rules old new)
removes stanza rules moment old new (Ok o) known pruned = (moment, known, pruned)
removes stanza rules moment old new (Err h) known pruned = tt

unless_read : (uses : Bool) (P : Type 0) → (uses ≡ false → P) → Unless uses P
unless_read true P h = tt
unless_read false P h = h refl

module _ (p : Place) (b k : World) (rest : k ≡ record b { repo = k.repo; clock = k.clock }) (rules : Rules) (r : Result Outcome (Halt ExpireCommandFault)) where
  closes_none : (h : Halt ExpireCommandFault) → Unit {0} → Closes p (expire_meaning rules) b k (of_own h)
  closes_none (Refused e) x = tt
  closes_none (HaltFailed object) x = tt
  closes_none HaltMemory x = tt

  pub pruned_ran : Prunes p.stanza rules b.clock k.clock b.repo.view k.repo.view r → ChangesOnly (MayExpire p.stanza) b.repo.view k.repo.view → StaysBeside p.stanza b.repo.view k.repo.view →
      (counts_days rules.full ≡ false → k.clock ≡ b.clock) → (failed : Object → Type 0) → ((object : Object) → failed object → Failed b k object) →
      IfErr r (HaltCause (ExpireCommandCause p.stanza b.repo.view.now) failed) → SamePlaces b k → AreLater b k → PartEffect p (expire_meaning rules) b k (own_of r)
  pruned_ran x only beside unread failed rose cause places later =
      let command = Expire (retention rules x.moment) in
      ran_of p (expire_meaning rules) b k failed rose (ExpireCommandCause p.stanza b.repo.view.now) (λ e h. h) refl tt r tt (
        command,
        (x.moment, x.may_be, refl),
        subst (λ (v : View). DisksEffect Whole p.stanza command (reached_by expire_early r) b.repo.view b.spool.view k.repo.view v) (sym (ap (λ (s : World). s.spool.view) rest))
            (does_runs Whole p.stanza command (reached_by expire_early r) b.repo.view k.repo.view b.spool.view (λ q log keeps. expiry_spool p.stanza (retention rules x.moment) true q log b.spool.view keeps) x.does),
      )
      (removes p.stanza rules x.moment (known_world b) (known_world k) r x.known x.pruned)
      tt
      tt
      cause
      (all_on r (StaysHealed p (expire_meaning rules) b k) (record { agree = λ some h. any_some k.repo.view.now; lasts = λ synced some h. tt }))
      (record {
        beside = λ known. beside;
        spool = λ known. spool_kept p.stanza b k (ap (λ (s : World). s.spool.view) rest);
        repository = λ known. record { only = only; moment = x.moment; may_be = moment_from rules.full b.clock.least k.clock.least x.moment x.may_be; touches = x.touches };
        folder = ap (λ (s : World). s.tree.nodes) rest;
        others = ap (λ (s : World). s.others) rest;
        turned = all_none (reached_of (expire_meaning rules) (ending_of (own_of r))) _ (ap (λ (s : World). s.tree.nodes) rest);
        server = ap (λ (s : World). s.server) rest;
        workers = ap (λ (s : World). s.links) rest;
        clock = unless_read (counts_days rules.full) _ unread;
        closed = own_err (λ h. Unit {0}) (Closes p (expire_meaning rules) b k) closes_none r (any_err r (λ h. Unit {0}) (λ h. tt));
      })
      places later
