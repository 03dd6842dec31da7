-- What archive-push's own part did, known of all objects.
use Rattle.std.proofs.Common.{◌≡◌, ⊎_elim, inl, inr, arith, List, [], ◌∷◌, Option, Some, None, Result, Ok, Err, IfOk, IfErr, refl, sym, subst, ap, true}
use Rattle.std.specs.Prelude.{IfSome, IsSome, IsSomeAnd, OnOk}
use Rattle.base_devices.specs.Moments.{View}
use Rattle.base_devices.specs.DataFolder.{Nodes}
use Rattle.base_model.specs.declared.wal.ArchiveName.{ArchiveName}
use Rattle.base_model.specs.Log.{Done, KeepsSpool}
use Rattle.base_model.specs.Repository.{Repository}
use Rattle.base_model.specs.Steps.{Command, Named}
use Rattle.base_model.specs.Text.{Text}
use Rattle.base_model.specs.Walks.{IsSynced}
use Rattle.base_model.proofs.PushDone.{push_spool}
use Rattle.base_crash_lists.specs.Beside.{StaysBeside}
use Rattle.cmd_setup.specs.Calls.{StaysSynced}
use Rattle.cmd_types.specs.declared.stages.object.Object.{Object}
use Rattle.cmd_types.specs.declared.stages.halt.Halt.{Halt}
use Rattle.cmd_types.specs.declared.stages.halt.Halt.TheVariants.{Refused, Failed as HaltFailed, NoMemory as HaltMemory}
use Rattle.cmd_types.specs.declared.stages.outcome.Outcome.{Outcome}
use Rattle.cmd_types.specs.declared.stages.plan.SyncScope.TheVariants.{Looked}
use Rattle.cmd_types.specs.declared.stages.plan.Pairs.TheVariants.{HealArchive}
use Rattle.cmd_types.specs.Halts.{HaltCause}
use Rattle.cmd_types.specs.Plans.{AreHealed, HealsToLast}
use Rattle.cmd_types.specs.Reached.{OnFinished, reached_by}
use Rattle.cmd_types.specs.DisksEffect.{RepoEffect, DisksEffect}
use Rattle.cmd_types.specs.World.{World, Failed, AreLater}
use Rattle.cmd_types.proofs.Lifted.{does_runs, reading_spool}
use Rattle.cmd_archive_push.specs.declared.fault.PushFault.{PushFault}
use Rattle.cmd_archive_push.specs.declared.order.PushOrder.{PushOrder}
use Rattle.cmd_archive_push.specs.Causes.{IsStored, IsLasting, PushCause}
use Rattle.cmd_archive_push.specs.Commands.{IsPushOf}
use Rattle.cmd_archive_push.specs.Faults.{push_early}
use Rattle.cmd_archive_push.specs.Storing.{PutsOrder}
use Rattle.cmd_archive_push.specs.WalPath.{IsWalPath}
use Rattle.cmd_archive_push.proofs.Putting.{puts_most}
use Rattle.cmd_trait.specs.Meaning.{Place}
use Rattle.cmd_trait.specs.Ends.{ending_of, reached_of}
use Rattle.cmd_trait.specs.Faults.{own_of, of_own}
use Rattle.cmd_trait.specs.CallEffect.{PartEffect, SamePlaces, StaysHealed, Closes}
use Rattle.cmd_trait.proofs.Ends.{own_err}
use Rattle.cmd_trait.proofs.CallEffects.{all_none}
use Rattle.cmd_trait.proofs.PartEffects.{ran_of, all_on, any_err, spool_kept}
use Rattle.run_archive_push.specs.Pushing.{PushEffect, push_meaning}

-- the arguments name a file
pub fits : (path : Text) (p : Place) (r : Result PushOrder (Halt PushFault)) → IfOk r (λ o. (o.folder.now ≡ p.data_folder) × (o.path.now ≡ path)) → OnOk r ((name : ArchiveName) × IsWalPath p.data_folder path name)
fits path p (Ok o) is = (o.name, subst (λ (f : Text). IsWalPath f path o.name) is.0 (subst (λ (w : Text). IsWalPath o.folder.now w o.name) is.1 o.named))
fits path p (Err e) is = tt

push_receipts : (stanza : Text) (nodes : Option Nodes) (folder path : Text) (command : Command) → IsSomeAnd nodes (λ f. IsPushOf f folder path command) → (v : View) (q : Repository) (log : List Done) → KeepsSpool stanza q log v → KeepsSpool stanza q (record { command = command; acknowledged = true } ∷ log) v
push_receipts stanza None folder path command is v q log keeps = absurd is
push_receipts stanza (Some f) folder path command (inl x) v q log keeps = subst (λ (c : Command). KeepsSpool stanza q (record { command = c; acknowledged = true } ∷ log) v) (sym x.2) (push_spool stanza x.0 true q log v keeps)
push_receipts stanza (Some f) folder path command (inr x) v q log keeps = subst (λ (c : Command). KeepsSpool stanza q (record { command = c; acknowledged = true } ∷ log) v) (sym x.1) (reading_spool stanza q log v keeps)

ok_as : (r : Result Outcome (Halt PushFault)) (P Q : Outcome → Type 0) → ((o : Outcome) → P o → Q o) → IfOk r P → IfOk r Q
ok_as (Ok o) P Q to h = to o h
ok_as (Err e) P Q to h = tt

abbrev with_folder : Place → Text → Place
with_folder p folder = record p { data_folder = folder }

-- the order's file is put at most
pub order_effect : (p : Place) (order : PushOrder) (b k : View) (nodes : Option Nodes) → PutsOrder p.stanza order b k nodes → PushEffect (with_folder p order.folder.now) order.path.now b.now k.now
order_effect p order b k nodes x = record {
  files = record { name = order.name; bytes = x.bytes } ∷ [];
  few = omega arith;
  named = λ file at. ⊎_elim
      (λ (e : file ≡ record { name = order.name; bytes = x.bytes }). subst (λ (m : Named). IsWalPath order.folder.now order.path.now m.name) (sym e) order.named)
      (λ (none : ⊥). absurd none) at;
  puts = puts_most p.stanza (record { name = order.name; bytes = x.bytes } ∷ []) x.current b k x.of x.puts;
}

module _ (p : Place) (b k : World) (rest : k ≡ record b { repo = k.repo; tree = k.tree }) (nodes : k.tree.nodes ≡ b.tree.nodes) (folder path : Text) (r : Result Outcome (Halt PushFault)) where
  abbrev at : Place
  at = with_folder p folder

  closes_none : (h : Halt PushFault) → Unit {0} → Closes at (push_meaning path) b k (of_own h)
  closes_none (Refused e) x = tt
  closes_none (HaltFailed object) x = tt
  closes_none HaltMemory x = tt

  pub pushed_ran : (asked : Text) → folder ≡ p.data_folder → path ≡ asked → PushEffect (with_folder p folder) path b.repo.view.now k.repo.view.now → StaysBeside p.stanza b.repo.view k.repo.view → ((command : Command) → IsSomeAnd b.tree.nodes (λ f. IsPushOf f folder path command) → RepoEffect Looked p.stanza command (reached_by push_early r) b.repo.view k.repo.view) →
      IfOk r (λ o. OnFinished o (IsStored p.stanza folder path b.tree.nodes b.repo.view.now k.repo.view.now)) →
      IfOk r (λ o. IsSynced p.stanza b.repo.view → IsSome b.repo.view.now → OnFinished o (λ lines. IsLasting p.stanza folder path k.repo.view)) →
      StaysSynced p.stanza b.repo.view k.repo.view → (IfSome b.repo.view.now (AreHealed HealArchive p.stanza) → IsSome b.repo.view.now → IfSome k.repo.view.now (AreHealed HealArchive p.stanza)) →
      (IsSynced p.stanza b.repo.view → IsSome b.repo.view.now → HealsToLast HealArchive p.stanza b.repo.view → HealsToLast HealArchive p.stanza k.repo.view) → (failed : Object → Type 0) → ((object : Object) → failed object → Failed b k object) →
      IfErr r (HaltCause (PushCause p.stanza folder path b.repo.view.now b.tree.nodes) failed) → SamePlaces b k → AreLater b k → PartEffect p (push_meaning asked) b k (own_of r)
  pushed_ran asked in_it is effect beside does stored lasting synced agrees alike failed rose cause places later =
      subst (λ (x : Text). PartEffect p (push_meaning x) b k (own_of r)) is (subst (λ (x : Text). PartEffect (with_folder p x) (push_meaning path) b k (own_of r)) in_it
      (ran_of at (push_meaning path) b k failed rose (PushCause p.stanza folder path b.repo.view.now b.tree.nodes) (λ e h. h) refl tt r tt
      (λ command x. subst (λ (v : View). DisksEffect Looked p.stanza command (reached_by push_early r) b.repo.view b.spool.view k.repo.view v) (sym (ap (λ (s : World). s.spool.view) rest))
      (does_runs Looked p.stanza command (reached_by push_early r) b.repo.view k.repo.view b.spool.view (push_receipts p.stanza b.tree.nodes folder path command x b.spool.view) (does command x)))
      stored
      (ok_as r _ _ (λ o h synced some pair. h synced some) lasting)
      synced
      cause
      (all_on r (StaysHealed at (push_meaning path) b k) (record { agree = λ some h. agrees h some; lasts = alike }))
      (record {
        beside = λ known. beside;
        spool = λ known. spool_kept p.stanza b k (ap (λ (s : World). s.spool.view) rest);
        repository = λ known. effect;
        folder = nodes;
        others = ap (λ (s : World). s.others) rest;
        turned = all_none (reached_of (push_meaning path) (ending_of (own_of r))) _ nodes;
        server = ap (λ (s : World). s.server) rest;
        workers = ap (λ (s : World). s.links) rest;
        clock = ap (λ (s : World). s.clock) rest;
        closed = own_err (λ h. Unit {0}) (Closes at (push_meaning path) b k) closes_none r (any_err r (λ h. Unit {0}) (λ h. tt));
      })
      places later))
