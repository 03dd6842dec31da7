-- What a rehearsal did, known of all objects.
use Rattle.std.proofs.Common.{◌≡◌, ◌⊎◌, ℕ, Result, Ok, Err, IfOk, IfErr, refl, sym, subst}
use Rattle.std.specs.Prelude.{IfSome}
use Rattle.base_devices.specs.Moments.{View}
use Rattle.base_model.specs.Repository.{Backup}
use Rattle.base_sample.specs.Having.{IsEmpty}
use Rattle.base_crash_lists.specs.Beside.{StaysBeside}
use Rattle.cmd_types.specs.declared.stages.object.Object.{Object}
use Rattle.cmd_types.specs.declared.stages.object.Object.TheVariants as objects
use Rattle.cmd_types.specs.declared.stages.object.Object.TheVariants.{Server as TheServer}
use Rattle.cmd_types.specs.declared.stages.halt.Halt.{Halt}
use Rattle.cmd_types.specs.declared.stages.halt.Halt.TheVariants.{Refused, Failed as HaltFailed, NoMemory as HaltMemory}
use Rattle.cmd_types.specs.declared.stages.outcome.Outcome.{Outcome}
use Rattle.cmd_types.specs.declared.stages.outcome.Outcome.TheVariants.{Finished, Absent, FindingsFound}
use Rattle.cmd_types.specs.declared.stages.plan.SyncScope.TheVariants.{Whole}
use Rattle.cmd_types.specs.Halts.{HaltCause}
use Rattle.cmd_types.specs.Reached.{reached_by}
use Rattle.cmd_types.specs.DisksEffect.{Reached, RepoEffect, DisksEffect, OnNone}
use Rattle.cmd_types.specs.World.{World, Failed, AreLater}
use Rattle.cmd_rehearse.specs.declared.fault.RehearseFault.{RehearseFault}
use Rattle.cmd_rehearse.specs.declared.fault.RehearseFault.TheVariants.{StanzaExists, NotEmpty, Step}
use Rattle.cmd_rehearse.specs.Causes.{RehearseCause}
use Rattle.cmd_rehearse.specs.Commands.{rehearsed, keeps_one}
use Rattle.cmd_rehearse.specs.Faults.{rehearse_early}
use Rattle.cmd_rehearse.specs.Rehearsing.{IsKnown, IsRehearsed, IfEarly}
use Rattle.cmd_rehearse.proofs.Ends.{after_known}
use Rattle.cmd_rehearse.proofs.Spools.{leaves_spool}
use Rattle.cmd_trait.specs.Meaning.{Place}
use Rattle.cmd_trait.specs.Faults.{own_of, of_own}
use Rattle.cmd_trait.specs.CallEffect.{PartEffect, SamePlaces, StaysHealed, Closes}
use Rattle.cmd_trait.proofs.Ends.{reached_same, own_err}
use Rattle.cmd_trait.proofs.PartEffects.{ran_of, all_on, any_err, any_some, spool_kept}
use Rattle.run_rehearse.specs.Rehearsing.{size_by, rehearse_meaning}

ok_as : {E : Type 0} (r : Result Outcome E) (P Q : Outcome → Type 0) → ((o : Outcome) → P o → Q o) → IfOk r P → IfOk r Q
ok_as (Ok o) P Q to h = to o h
ok_as (Err e) P Q to h = tt

-- a refusal before its first step leaves the folder unchanged
rehearse_stays : (P : Type 0) (failed : Object → Type 0) → (failed TheServer → ⊥) → (why : RehearseFault → Type 0) (r : Result Outcome (Halt RehearseFault)) → IfOk r IsKnown → IfErr r (HaltCause why failed) → IfErr r (IfEarly P) → OnNone (reached_by rehearse_early r) P
rehearse_stays P failed never why (Ok (Finished lines)) known cause h = tt
rehearse_stays P failed never why (Ok (Absent name)) known cause h = absurd known
rehearse_stays P failed never why (Ok (FindingsFound lines count)) known cause h = tt
rehearse_stays P failed never why (Err (Refused (StanzaExists text))) known cause h = h
rehearse_stays P failed never why (Err (Refused (NotEmpty path))) known cause h = h
rehearse_stays P failed never why (Err (Refused (Step fault))) known cause h = tt
rehearse_stays P failed never why (Err (HaltFailed objects.Repo)) known cause h = tt
rehearse_stays P failed never why (Err (HaltFailed objects.Spool)) known cause h = tt
rehearse_stays P failed never why (Err (HaltFailed objects.TheDataFolder)) known cause h = tt
rehearse_stays P failed never why (Err (HaltFailed objects.Server)) known cause h = absurd (never cause)
rehearse_stays P failed never why (Err (HaltFailed objects.Others)) known cause h = tt
rehearse_stays P failed never why (Err (HaltFailed objects.Clock)) known cause h = tt
rehearse_stays P failed never why (Err (HaltFailed objects.Locks)) known cause h = tt
rehearse_stays P failed never why (Err (HaltFailed objects.Config)) known cause h = tt
rehearse_stays P failed never why (Err (HaltFailed objects.Output)) known cause h = tt
rehearse_stays P failed never why (Err HaltMemory) known cause h = tt

module _ (p : Place) (number : ℕ) (b k : World) (spool : k.spool.view ≡ b.spool.view) (server : k.server ≡ b.server) (others : k.others ≡ b.others) (r : Result Outcome (Halt RehearseFault)) where
  closes_none : (h : Halt RehearseFault) → Unit {0} → Closes p (rehearse_meaning number) b k (of_own h)
  closes_none (Refused e) x = tt
  closes_none (HaltFailed object) x = tt
  closes_none HaltMemory x = tt

  pub rehearsed_ran : (x y z : Backup) → RepoEffect Whole p.stanza (rehearsed (size_by number) keeps_one x y z) (reached_by rehearse_early r) b.repo.view k.repo.view →
      IfOk r (IsRehearsed p.stanza (size_by number) x y z b.repo.view.now k.repo.view.now k.tree.nodes) → StaysBeside p.stanza b.repo.view k.repo.view →
      IfErr r (IfEarly (k.tree.nodes ≡ b.tree.nodes)) → (k.tree.nodes ≡ b.tree.nodes) ⊎ IfSome b.tree.nodes IsEmpty →
      (failed : Object → Type 0) → (failed TheServer → ⊥) → ((object : Object) → failed object → Failed b k object) →
      IfErr r (HaltCause (RehearseCause p.stanza (size_by number) b.repo.view.now b.tree.nodes) failed) → SamePlaces b k → AreLater b k → PartEffect p (rehearse_meaning number) b k (own_of r)
  rehearsed_ran x y z does shows beside early left failed never rose cause places later =
      let m = rehearse_meaning number in
      let command = rehearsed (size_by number) keeps_one x y z in
      let why = RehearseCause p.stanza (size_by number) b.repo.view.now b.tree.nodes in
      let stays = rehearse_stays (k.tree.nodes ≡ b.tree.nodes) failed never why r (ok_as r _ _ (λ o h. after_known _ h.found o h.lines) shows) cause early in
      ran_of p m b k failed rose why (λ e h. h) refl tt r tt (
        command,
        (x, y, z, refl),
        subst (λ (v : View). DisksEffect Whole p.stanza command (reached_by rehearse_early r) b.repo.view b.spool.view k.repo.view v) (sym spool)
            (leaves_spool Whole p.stanza command (reached_by rehearse_early r) b.repo.view k.repo.view b.spool.view does),
      )
      (ok_as r _ _ (λ o h. (x, y, z, h)) shows)
      tt
      tt
      cause
      (all_on r (StaysHealed p m b k) (record { agree = λ some h. any_some k.repo.view.now; lasts = λ synced some h. tt }))
      (record {
        beside = λ known. beside;
        spool = λ known. spool_kept p.stanza b k spool;
        repository = λ known. tt;
        folder = left;
        others = others;
        turned = subst (λ (reached : Reached). OnNone reached (k.tree.nodes ≡ b.tree.nodes)) (sym (reached_same m r)) stays;
        server = server;
        workers = tt;
        clock = tt;
        closed = own_err (λ h. Unit {0}) (Closes p m b k) closes_none r (any_err r (λ h. Unit {0}) (λ h. tt));
      })
      places later
