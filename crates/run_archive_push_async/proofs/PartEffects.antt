-- What archive-push:async's own part did, known of all objects.
use Rattle.std.proofs.Common.{◌≡◌, Bool, Option, Some, None, Result, Ok, Err, IfOk, IfErr, refl, subst, ap, List}
use Rattle.std.specs.Prelude.{IfSome, IsSome, IsSomeAnd, OnOk, is_ok, string_bytes}
use Rattle.base_crash_lists.specs.Beside.{StaysBeside}
use Rattle.base_devices.specs.DataFolder.{Nodes}
use Rattle.base_devices.specs.Moments.{View}
use Rattle.base_model.specs.Steps.{ArchivePushDrain, Command, Named}
use Rattle.base_model.specs.Text.{Text}
use Rattle.base_model.specs.Walks.{IsSynced}
use Rattle.repo_stanza.specs.declared.control.Control.{Control}
use Rattle.cmd_archive_push.specs.declared.fault.PushFault.{PushFault}
use Rattle.cmd_archive_push.proofs.Putting.{puts_most}
use Rattle.cmd_archive_push.specs.Putting.{Puts}
use Rattle.cmd_types.specs.Current.{HasCurrent, id_kept}
use Rattle.base_model.specs.declared.clusters.ClusterId.{ClusterId}
use Rattle.cmd_archive_push_async.specs.Drained.{AreLasting, IsDrainOf, IsDrained, DrainCause, drain_early}
use Rattle.cmd_archive_push_async.specs.Fates.{kept_files}
use Rattle.cmd_archive_push_async.specs.Paired.{KeepsPair}
use Rattle.cmd_setup.specs.Folder.{IsKnown}
use Rattle.cmd_types.specs.declared.stages.halt.Halt.{Halt}
use Rattle.cmd_types.specs.declared.stages.halt.Halt.TheVariants.{Refused, Failed as HaltFailed, NoMemory as HaltMemory}
use Rattle.cmd_types.specs.declared.stages.object.Object.{Object}
use Rattle.cmd_types.specs.declared.stages.outcome.Outcome.{Outcome}
use Rattle.cmd_types.specs.declared.stages.outcome.Outcome.TheVariants.{Finished, Absent, FindingsFound}
use Rattle.cmd_types.specs.declared.stages.plan.SyncScope.TheVariants.{Whole}
use Rattle.cmd_types.specs.Cluster.{FolderShows}
use Rattle.cmd_types.specs.DisksEffect.{DisksEffect, On, one, to_end}
use Rattle.cmd_types.specs.Halts.{HaltCause}
use Rattle.cmd_types.specs.Reached.{OnFinished, reached_by}
use Rattle.cmd_types.specs.World.{World, Failed, AreLater}
use Rattle.cmd_trait.specs.CallEffect.{OwnLasts, PartEffect, SamePlaces, StaysHealed, Closes}
use Rattle.cmd_trait.specs.Ends.{ending_of, reached_of}
use Rattle.cmd_trait.specs.Faults.{own_of, of_own}
use Rattle.cmd_trait.specs.Meaning.{Place, Meaning}
use Rattle.cmd_trait.proofs.CallEffects.{all_none}
use Rattle.cmd_trait.proofs.Ends.{own_err}
use Rattle.cmd_trait.proofs.PartEffects.{ran_of, all_on, any_err}
use Rattle.run_archive_push_async.specs.Draining.{DrainEffect, IsSomeDrain, LastsDrained, drain_meaning}

-- the cluster is the one that was read
shown : (nodes : Option Nodes) (control : Option Control) (known : Control) → control ≡ Some known → IsSomeAnd control (IsKnown nodes) → IfSome nodes (λ f. FolderShows f known)
shown nodes control known is h = subst (λ (c : Option Control). IsSomeAnd c (IsKnown nodes)) is h

drain_steps : (nodes : Option Nodes) (whole : Bool) (P : Command → Type 0) → ((f : Nodes) → nodes ≡ Some f → On (one (IsDrainOf f whole)) P) → IsSome nodes →
    (command : Command) × IsSomeAnd nodes (λ f. IsSomeDrain f command) × P command
drain_steps None whole P h some = cc
drain_steps (Some f) whole P h some = let x = h f refl in (x.0, (whole, x.1), x.2)

drain_known : (nodes : Option Nodes) (P : Nodes → Type 0) → ((f : Nodes) → nodes ≡ Some f → P f) → IfSome nodes P
drain_known None P h = tt
drain_known (Some f) P h = h f refl

drain_finished : (nodes : Option Nodes) (P : Nodes → Text → Type 0) (o : Outcome) → OnFinished o (λ lines. (f : Nodes) → nodes ≡ Some f → P f lines) → OnFinished o (λ lines. IfSome nodes (λ f. P f lines))
drain_finished nodes P (Finished lines) h = drain_known nodes (λ f. P f (string_bytes lines)) h
drain_finished nodes P (Absent name) h = absurd h
drain_finished nodes P (FindingsFound lines count) h = absurd h

drain_first : (nodes : Option Nodes) (P : Nodes → Text → Type 0) (Q : (f : Nodes) (lines : Text) → P f lines → Type 0) (o : Outcome) → OnFinished o (λ lines. (f : Nodes) → nodes ≡ Some f → (x : P f lines) × Q f lines x)
    → OnFinished o (λ lines. (f : Nodes) → nodes ≡ Some f → P f lines)
drain_first nodes P Q (Finished lines) h = λ f is. (h f is).0
drain_first nodes P Q (Absent name) h = absurd h
drain_first nodes P Q (FindingsFound lines count) h = absurd h

-- files are put at most
pub drained_effect : (stanza : Text) (old new : View) → (c : ClusterId) × IfSome old.now (λ f. HasCurrent stanza f c) × ((files : List Named) × Puts stanza (id_kept c) files old new) → DrainEffect stanza old.now new.now
drained_effect stanza old new x = (x.2.0, puts_most stanza x.2.0 x.0 old new x.1 x.2.1)

ok_as : (r : Result Outcome (Halt PushFault)) (P Q : Outcome → Type 0) → ((o : Outcome) → P o → Q o) → IfOk r P → IfOk r Q
ok_as (Ok o) P Q to h = to o h
ok_as (Err e) P Q to h = tt

module _ (p : Place) (b k : World) (rest : k ≡ record b { repo = k.repo; spool = k.spool; tree = k.tree }) (nodes : k.tree.nodes ≡ b.tree.nodes) (spool : Text) (known : Control) (control : Option Control) (is : control ≡ Some known) (read : IsSomeAnd control (IsKnown b.tree.nodes)) (r : Result Outcome (Halt PushFault)) where
  abbrev means : Meaning PushFault
  means = drain_meaning spool

  closes_none : (h : Halt PushFault) → Unit {0} → Closes p means b k (of_own h)
  closes_none (Refused e) x = tt
  closes_none (HaltFailed object) x = tt
  closes_none HaltMemory x = tt

  known_lasting : (nodes : Option Nodes) → IfSome nodes (λ f. AreLasting p.stanza f known k.repo.view) → LastsDrained p.stanza nodes k.repo.view
  known_lasting None h = tt
  known_lasting (Some f) h = (known, h)

  each_lasting : (x : Result Outcome (Halt PushFault)) → OnOk x (IsSynced p.stanza b.repo.view → IsSome b.repo.view.now → IfSome b.tree.nodes (λ f. AreLasting p.stanza f known k.repo.view)) → IfOk x (OwnLasts p means b k)
  each_lasting (Ok o) h = λ synced some pair. known_lasting b.tree.nodes (h synced some)
  each_lasting (Err e) h = tt

  pub drained_ran : DrainEffect p.stanza b.repo.view.now k.repo.view.now → OnOk r (IsSynced p.stanza b.repo.view → IsSome b.repo.view.now → IfSome b.tree.nodes (λ f. AreLasting p.stanza f known k.repo.view)) → KeepsPair p.stanza b.repo.view k.repo.view → StaysBeside p.stanza b.repo.view k.repo.view → StaysBeside p.stanza b.spool.view k.spool.view →
      ((f : Nodes) → b.tree.nodes ≡ Some f → On (one (IsDrainOf f (is_ok r))) (λ command. DisksEffect Whole p.stanza command (reached_by drain_early r) b.repo.view b.spool.view k.repo.view k.spool.view)) →
      IfOk r (λ o. OnFinished o (λ lines. (f : Nodes) → b.tree.nodes ≡ Some f → (drained : IsDrained p.stanza f known b.repo.view.now k.repo.view.now b.spool.view.now k.spool.view.now lines)
      × DisksEffect Whole p.stanza (ArchivePushDrain (kept_files drained.entries)) to_end b.repo.view b.spool.view k.repo.view k.spool.view)) → (failed : Object → Type 0) → ((object : Object) → failed object → Failed b k object) →
      IfErr r (HaltCause (DrainCause p.stanza b.repo.view.now k.repo.view.now b.tree.nodes) failed) → SamePlaces b k → AreLater b k → PartEffect p means b k (own_of r)
  drained_ran effect stays pair beside spool_beside runs drained failed rose cause places later =
      ran_of p means b k failed rose (DrainCause p.stanza b.repo.view.now k.repo.view.now b.tree.nodes) (λ e h. h) refl tt r tt
      (λ some. drain_steps b.tree.nodes (is_ok r) (λ command. DisksEffect Whole p.stanza command (reached_by drain_early r) b.repo.view b.spool.view k.repo.view k.spool.view) runs some)
      (ok_as r _ _ (λ o h. record {
        known = known;
        shows = shown b.tree.nodes control known is read;
        drained = drain_finished b.tree.nodes (λ f lines. IsDrained p.stanza f known b.repo.view.now k.repo.view.now b.spool.view.now k.spool.view.now lines) o
            (drain_first b.tree.nodes (λ f lines. IsDrained p.stanza f known b.repo.view.now k.repo.view.now b.spool.view.now k.spool.view.now lines)
            (λ f lines drained. DisksEffect Whole p.stanza (ArchivePushDrain (kept_files drained.entries)) to_end b.repo.view b.spool.view k.repo.view k.spool.view) o h);
      }) drained)
      (each_lasting r stays)
      pair.synced
      cause
      (all_on r (StaysHealed p means b k) (record { agree = pair.agrees; lasts = pair.alike }))
      (record {
        beside = λ known. beside;
        spool = λ known. spool_beside;
        repository = λ known. effect;
        folder = nodes;
        others = ap (λ (s : World). s.others) rest;
        turned = all_none (reached_of means (ending_of (own_of r))) _ nodes;
        server = ap (λ (s : World). s.server) rest;
        workers = ap (λ (s : World). s.links) rest;
        clock = ap (λ (s : World). s.clock) rest;
        closed = own_err (λ h. Unit {0}) (Closes p means b k) closes_none r (any_err r (λ h. Unit {0}) (λ h. tt));
      })
      places later
