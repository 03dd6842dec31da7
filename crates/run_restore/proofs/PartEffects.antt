-- What restore's own part did, known of all objects.
use Rattle.std.proofs.Common.{◌≡◌, ◌≢◌, ◌⊎◌, inl, inr, Option, Some, Result, Ok, Err, IfOk, IfErr, refl, subst, ap, true, string_bytes}
use Rattle.std.specs.Prelude.{OnOk, OnErr}
use Rattle.base_devices.specs.Content.{Content}
use Rattle.base_devices.specs.States.{AllSynced}
use Rattle.base_model.specs.declared.labels.Label.{Label}
use Rattle.base_model.specs.Now.{NowRepresents}
use Rattle.base_model.specs.Repository.{Stanza}
use Rattle.base_model.specs.Text.{Text}
use Rattle.base_model.proofs.Walking.{rests_synced}
use Rattle.archive_store.specs.Still.{IsStill}
use Rattle.restore_steps.specs.Clearing.{control_path, HasNone}
use Rattle.cmd_types.specs.declared.stages.object.Object.{Object}
use Rattle.cmd_types.specs.declared.stages.object.Object.TheVariants.{Server as TheServer}
use Rattle.cmd_types.specs.declared.stages.object.Object.TheVariants as objects
use Rattle.cmd_types.specs.declared.stages.halt.Halt.{Halt}
use Rattle.cmd_types.specs.declared.stages.halt.Halt.TheVariants.{Refused, Failed as HaltFailed, NoMemory as HaltMemory}
use Rattle.cmd_types.specs.declared.stages.outcome.Outcome.{Outcome}
use Rattle.cmd_types.specs.declared.stages.outcome.Outcome.TheVariants.{Finished, Absent, FindingsFound}
use Rattle.cmd_types.specs.declared.stages.plan.SyncScope.TheVariants.{Whole}
use Rattle.cmd_types.specs.Halts.{HaltCause}
use Rattle.cmd_types.specs.Reached.{OnFinished, reached_by, back_if, fails_early}
use Rattle.cmd_types.specs.StagesTexts.{object_status}
use Rattle.cmd_types.specs.DisksEffect.{OnNone}
use Rattle.cmd_types.specs.World.{World, Failed, AreLater}
use Rattle.cmd_types.proofs.Besides.{still_beside}
use Rattle.cmd_restore.specs.declared.fault.RestoreCommandFault.{RestoreCommandFault}
use Rattle.cmd_restore.specs.declared.fault.RestoreCommandFault.TheVariants as restores
use Rattle.cmd_restore.specs.Causes.{RestoreCommandCause}
use Rattle.cmd_restore.specs.Ends.{restore_early, leaves_folder}
use Rattle.cmd_restore.specs.Restoring.{Recovers, GivesBackup}
use Rattle.cmd_restore.specs.Texts.{restore_status}
use Rattle.cmd_restore.specs.Words.{ShowsChoice}
use Rattle.restore_choice.specs.declared.choice.Choice.{Choice}
use Rattle.cmd_trait.specs.KnownWorld.{known_world}
use Rattle.cmd_trait.specs.Meaning.{Place}
use Rattle.cmd_trait.specs.Ends.{status, ending_of, reached_of}
use Rattle.cmd_trait.specs.Faults.{own_of, of_own}
use Rattle.cmd_trait.specs.CallEffect.{PartEffect, SamePlaces, StaysHealed, Closes}
use Rattle.cmd_trait.proofs.Ends.{own_err}
use Rattle.cmd_trait.proofs.PartEffects.{ran_of, all_on, any_err, any_some, spool_kept, reading_runs}
use Rattle.run_restore.specs.Restoring.{RestoreHow, found_for, Restores, LeavesWhole, LeavesRefused, restore_meaning}

-- with another status than these the workers weren't started
first_leaves : (e : RestoreCommandFault) → restore_status e ≢ 55 → restore_status e ≢ 56 → restore_status e ≢ 63 → leaves_folder (Refused e) ≡ true
first_leaves restores.SetForm a b c = refl
first_leaves restores.TargetForm a b c = refl
first_leaves (restores.Unchosen fault) a b c = refl
first_leaves restores.Running a b c = refl
first_leaves (restores.NotEmpty path) a b c = refl
first_leaves (restores.ManifestDamaged fault) a b c = refl
first_leaves (restores.WorkersLost lost) a b c = absurd (a refl)
first_leaves (restores.Unread path) a b c = absurd (b refl)
first_leaves (restores.FileDamaged path known found) a b c = absurd (c refl)

-- both hold where it succeeds
both : {X : Type 0} (r : Result Outcome X) (P Q R : Outcome → Type 0) → ((o : Outcome) → P o → Q o → R o) → IfOk r P → IfOk r Q → IfOk r R
both (Ok o) P Q R to p q = to o p q
both (Err e) P Q R to p q = tt

module _ (p : Place) (b k : World) (rest : k ≡ record b { repo = k.repo; tree = k.tree; links = k.links }) (still : IsStill b.repo.view k.repo.view) (set : Option Text) (choice : Choice) (how : RestoreHow) (is_choice : ShowsChoice set how.recovery choice)
    (r : Result Outcome (Halt RestoreCommandFault)) where
  -- the backup is in the folder
  abbrev IsIn : Outcome → Type 0
  IsIn o = OnFinished o (Recovers (found_for p choice how (known_world b)) k.tree.nodes)

  abbrev Stays : Type 0
  Stays = k.tree.nodes ≡ b.tree.nodes

  -- where it is refused, no half of a backup is left; and before its workers are started the folder stays
  turned : (failed : Object → Type 0) → (failed TheServer → ⊥) → (why : RestoreCommandFault → Type 0) (r : Result Outcome (Halt RestoreCommandFault)) → IfOk r IsIn → IfErr r (HaltCause why failed) → OnErr r (Stays ⊎ HasNone control_path k.tree.nodes) → IfErr r (λ h. leaves_folder h ≡ true → Stays) →
      OnNone (reached_of (restore_meaning set how) (ending_of (own_of r))) (LeavesRefused (known_world b) (known_world k) (status (restore_meaning set how) (ending_of (own_of r))))
  turned failed never why (Ok (Finished lines)) f cause half h = tt
  turned failed never why (Ok (Absent name)) f cause half h = absurd f
  turned failed never why (Ok (FindingsFound lines count)) f cause half h = absurd f
  turned failed never why (Err (Refused e)) f cause half h = (half, λ x y z. h (first_leaves e x y z))
  turned failed never why (Err (HaltFailed object)) f cause half h = go object cause
    where
      go : (o : Object) → failed o → OnNone (back_if (fails_early o)) (LeavesRefused (known_world b) (known_world k) (object_status o))
      go objects.Server x = absurd (never x)
      go objects.Repo x = tt
      go objects.Spool x = tt
      go objects.TheDataFolder x = tt
      go objects.Others x = tt
      go objects.Clock x = tt
      go objects.Locks x = tt
      go objects.Config x = tt
      go objects.Output x = tt
  turned failed never why (Err HaltMemory) f cause half h = tt

  -- the folder is unchanged, or has no control file, or holds a whole backup
  left_whole : (r : Result Outcome (Halt RestoreCommandFault)) → IfOk r IsIn → OnErr r (Stays ⊎ HasNone control_path k.tree.nodes) → LeavesWhole p set how (known_world b) k.tree.nodes
  left_whole (Ok (Finished lines)) ok err = inr (choice, is_choice, (string_bytes lines, ok))
  left_whole (Ok (Absent name)) ok err = absurd ok
  left_whole (Ok (FindingsFound lines count)) ok err = absurd ok
  left_whole (Err h) ok err = inl err

  closes_none : (h : Halt RestoreCommandFault) → Unit {0} → Closes p (restore_meaning set how) b k (of_own h)
  closes_none (Refused e) x = tt
  closes_none (HaltFailed object) x = tt
  closes_none HaltMemory x = tt

  pub restored_ran : (asked : RestoreHow) → how ≡ asked → IfOk r IsIn →
      IfOk r (λ o. (s : Stanza) (f : Content) → b.repo.view.now ≡ Some f → NowRepresents p.stanza (Some s) b.repo.view.now → OnFinished o (GivesBackup s (found_for p choice how (known_world b)) f k.tree.nodes)) →
      OnOk r (AllSynced k.tree) → OnErr r (Stays ⊎ HasNone control_path k.tree.nodes) → IfErr r (λ h. leaves_folder h ≡ true → Stays) →
      (failed : Object → Type 0) → (failed TheServer → ⊥) → ((object : Object) → failed object → Failed b k object) →
      IfErr r (HaltCause (RestoreCommandCause (found_for p choice how (known_world b))) failed) → SamePlaces b k → AreLater b k → PartEffect p (restore_meaning set asked) b k (own_of r)
  restored_ran asked is restored given synced control unchanged failed never rose cause places later =
      subst (λ (x : RestoreHow). PartEffect p (restore_meaning set x) b k (own_of r)) is
      (ran_of p (restore_meaning set how) b k failed rose (RestoreCommandCause (found_for p choice how (known_world b))) (λ e h. (choice, is_choice, h)) refl tt r synced
      (λ command x. reading_runs Whole p.stanza command (reached_by restore_early r) b k x still (ap (λ (s : World). s.spool.view) rest))
      (both r IsIn _ (Restores p set how (known_world b) (known_world k)) (λ o x y. record { choice = choice; is = is_choice; recovers = x; gives = y }) restored given)
      tt
      (λ synced some. rests_synced p.stanza b.repo.view k.repo.view still.time still.now synced)
      cause
      (all_on r (StaysHealed p (restore_meaning set how) b k) (record { agree = λ some h. any_some k.repo.view.now; lasts = λ synced some h. tt }))
      (record {
        beside = λ known. still_beside p.stanza b.repo.view k.repo.view still;
        spool = λ known. spool_kept p.stanza b k (ap (λ (s : World). s.spool.view) rest);
        repository = λ known. still;
        folder = left_whole r restored control;
        others = ap (λ (s : World). s.others) rest;
        turned = turned failed never _ r restored cause control unchanged;
        server = ap (λ (s : World). s.server) rest;
        workers = tt;
        clock = ap (λ (s : World). s.clock) rest;
        closed = own_err (λ h. Unit {0}) (Closes p (restore_meaning set how) b k) closes_none r (any_err r (λ h. Unit {0}) (λ h. tt));
      })
      places later)
