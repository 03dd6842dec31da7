-- What archive-get's own part did, known of all objects.
use Rattle.std.proofs.Common.{◌≡◌, Option, Some, Result, Ok, Err, IfOk, IfErr, refl, sym, subst, ap}
use Rattle.std.specs.Prelude.{IfSome, IsSome, IsSomeAnd}
use Rattle.base_devices.specs.Content.{Content}
use Rattle.base_devices.specs.Crash.{Leaves}
use Rattle.base_devices.specs.DataFolder.{Nodes}
use Rattle.base_model.specs.Text.{Text}
use Rattle.base_model.specs.Walks.{IsSynced}
use Rattle.base_model.proofs.Walking.{rests_synced}
use Rattle.archive_store.specs.Still.{IsStill}
use Rattle.repo_stanza.specs.declared.control.Control.{Control}
use Rattle.cmd_types.specs.declared.stages.object.Object.{Object}
use Rattle.cmd_types.specs.declared.stages.outcome.Outcome.{Outcome}
use Rattle.cmd_types.specs.declared.stages.halt.Halt.{Halt}
use Rattle.cmd_types.specs.declared.stages.halt.Halt.TheVariants.{Refused, Failed as HaltFailed, NoMemory as HaltMemory}
use Rattle.cmd_types.specs.declared.stages.plan.SyncScope.TheVariants.{Looked}
use Rattle.cmd_types.specs.Cluster.{FolderShows}
use Rattle.cmd_types.specs.Halts.{HaltCause}
use Rattle.cmd_types.specs.Reached.{reached_by}
use Rattle.cmd_types.specs.DisksEffect.{Reached, OnNone, PairAlike}
use Rattle.cmd_types.specs.World.{World, Failed, AreLater}
use Rattle.cmd_types.proofs.Besides.{still_beside}
use Rattle.cmd_setup.specs.declared.ready.Ready.{Ready}
use Rattle.cmd_setup.specs.Readies.{IsReady}
use Rattle.cmd_archive_get.specs.declared.fault.GetFault.{GetFault}
use Rattle.cmd_archive_get.specs.Getting.{get_early, GetCause, GotBy}
use Rattle.cmd_trait.specs.declared.fault.Fault.{Fault}
use Rattle.cmd_trait.specs.KnownWorld.{known_world}
use Rattle.cmd_trait.specs.Meaning.{Place, Meaning}
use Rattle.cmd_trait.specs.Ends.{ending_of, reached_of}
use Rattle.cmd_trait.specs.Faults.{own_of}
use Rattle.cmd_trait.specs.CallEffect.{PartEffect, SamePlaces, StaysHealed, Closes}
use Rattle.cmd_trait.proofs.Ends.{reached_same}
use Rattle.cmd_trait.proofs.PartEffects.{ran_of, all_on, any_some, reading_runs, spool_kept}
use Rattle.run_archive_get.specs.Getting.{get_meaning, get_plan}

-- ---- of both commands

-- of a command that is refused for nothing that a server sent
pub never_closes : (p : Place) (m : Meaning GetFault) (b k : World) → ((fault : GetFault) → m.closes p (known_world b) (known_world k) (Failed b k) fault) → (r : Result Outcome (Halt GetFault)) → IfErr (own_of r) (Closes p m b k)
never_closes p m b k each (Ok o) = tt
never_closes p m b k each (Err (Refused e)) = each e
never_closes p m b k each (Err (HaltFailed object)) = tt
never_closes p m b k each (Err HaltMemory) = tt

-- it is refused as its own part is
pub turned_as : (m : Meaning GetFault) (r : Result Outcome (Halt GetFault)) (P : Type 0) → OnNone (reached_by m.early r) P → OnNone (reached_of m (ending_of (own_of r))) P
turned_as m r P h = subst (λ (reached : Reached). OnNone reached P) (sym (reached_same m r)) h

abbrev pub with_folder : Place → Text → Place
with_folder p folder = record p { data_folder = folder }

-- an order has the folder and the arguments that were given
pub as_given : (p : Place) (means : Text → Text → Meaning GetFault) (b k : World) (ended : Result Outcome (Fault GetFault)) (folder word path name at : Text) → folder ≡ p.data_folder → word ≡ name → path ≡ at → PartEffect (with_folder p folder) (means word path) b k ended → PartEffect p (means name at) b k ended
as_given p means b k ended folder word path name at in_it is_name is_at h =
    subst (λ (x : Text). PartEffect p (means name x) b k ended) is_at
    (subst (λ (x : Text). PartEffect p (means x path) b k ended) is_name
    (subst (λ (x : Text). PartEffect (with_folder p x) (means word path) b k ended) in_it h))

there : {T : Type 0} (o : Option T) (x : T) (P : T → Type 0) → o ≡ Some x → IsSomeAnd o P → P x
there o x P is h = subst (λ (y : Option _). IsSomeAnd y P) is h

-- the data folder states the cluster that was read
pub shows : (stanza : Text) (repo : Option Content) (nodes : Option Nodes) (ready : Ready) → IsReady get_plan stanza repo nodes ready → (known : Control) → ready.control ≡ Some known → IfSome nodes (λ f. FolderShows f known)
shows stanza repo nodes ready is_ready known some = there ready.control known _ some (is_ready.control refl)

-- ---- from the repository

module _ (p : Place) (b k : World) (rest : k ≡ record b { repo = k.repo; tree = k.tree }) (still : IsStill b.repo.view k.repo.view) (folder word path : Text) (r : Result Outcome (Halt GetFault)) where
  abbrev placed : Place
  placed = with_folder p folder

  abbrev means : Meaning GetFault
  means = get_meaning word path

  pub got_ran : (name at : Text) → folder ≡ p.data_folder → word ≡ name → path ≡ at → IfOk r (means.promise placed (known_world b) (known_world k)) →
      IfOk r (λ o. IsSynced p.stanza b.repo.view → IsSome b.repo.view.now → PairAlike p.stanza b.repo.view → (f : Content) → Leaves k.repo.view k.repo.view.moment f → GotBy p.stanza folder word path (Some f) b.tree.nodes k.tree.nodes o) → means.folder_effect placed (known_world b) k.tree.nodes →
      OnNone (reached_by get_early r) (k.tree.nodes ≡ b.tree.nodes) → (failed : Object → Type 0) → ((object : Object) → failed object → Failed b k object) →
      IfErr r (HaltCause (GetCause p.stanza folder word path b.repo.view.now b.tree.nodes) failed) → SamePlaces b k → AreLater b k → PartEffect p (get_meaning name at) b k (own_of r)
  got_ran name at in_it is_name is_at got lasting changes none failed rose cause places later = as_given p get_meaning b k (own_of r) folder word path name at in_it is_name is_at
      (ran_of placed means b k failed rose (GetCause p.stanza folder word path b.repo.view.now b.tree.nodes) (λ e h. h) refl tt r tt
      (λ command x. reading_runs Looked p.stanza command (reached_by get_early r) b k x still (ap (λ (s : World). s.spool.view) rest))
      got
      lasting
      (λ synced some. rests_synced p.stanza b.repo.view k.repo.view still.time still.now synced)
      cause
      (all_on r (StaysHealed placed means b k) (record { agree = λ some h. any_some k.repo.view.now; lasts = λ synced some h. tt }))
      (record {
        beside = λ known. still_beside p.stanza b.repo.view k.repo.view still;
        spool = λ known. spool_kept p.stanza b k (ap (λ (s : World). s.spool.view) rest);
        repository = λ known. still;
        folder = changes;
        others = ap (λ (s : World). s.others) rest;
        turned = turned_as means r _ none;
        server = ap (λ (s : World). s.server) rest;
        workers = ap (λ (s : World). s.links) rest;
        clock = ap (λ (s : World). s.clock) rest;
        closed = never_closes placed means b k (λ fault. tt) r;
      })
      places later)
