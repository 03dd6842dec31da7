-- What stanza-create's own part did, known of all objects.
use Rattle.std.proofs.Common.{◌≡◌, Option, Some, None, Result, Ok, Err, IfOk, IfErr, refl, sym, subst, ap, ◌∙◌, Bool, true, false}
use Rattle.std.specs.Prelude.{is_some, IfSome, IsSomeAnd, OnOk, true}
use Rattle.base_devices.specs.Content.{Content}
use Rattle.base_devices.specs.DataFolder.{Nodes}
use Rattle.base_devices.specs.Moments.{View}
use Rattle.base_disk.specs.Store.{ChangesOnly}
use Rattle.base_model.specs.Steps.{Command, StanzaCreate}
use Rattle.base_model.specs.Text.{Text}
use Rattle.base_model.proofs.Logged.{create_spool}
use Rattle.repo_stanza.specs.declared.control.Control.{Control}
use Rattle.repo_stanza.specs.ControlFile.{first_cluster}
use Rattle.repo_stanza.specs.Owned.{IsOfPairs}
use Rattle.archive_store.specs.Still.{IsStill}
use Rattle.cmd_setup.specs.declared.ready.Ready.{Ready}
use Rattle.cmd_setup.specs.Readies.{IsReady}
use Rattle.cmd_types.specs.declared.stages.object.Object.{Object}
use Rattle.cmd_types.specs.declared.stages.object.Object.TheVariants.{Server as TheServer}
use Rattle.cmd_types.specs.declared.stages.halt.Halt.{Halt}
use Rattle.cmd_types.specs.declared.stages.halt.Halt.TheVariants.{Refused, Failed as HaltFailed, NoMemory as HaltMemory}
use Rattle.cmd_types.specs.declared.stages.outcome.Outcome.{Outcome}
use Rattle.cmd_types.specs.declared.stages.plan.SyncScope.TheVariants.{Whole}
use Rattle.cmd_types.specs.Cluster.{FolderShows}
use Rattle.cmd_types.specs.Halts.{HaltCause}
use Rattle.cmd_types.specs.Reached.{reached_by}
use Rattle.cmd_types.specs.DisksEffect.{Reached, RepoEffect, DisksEffect, OnNone}
use Rattle.cmd_types.specs.World.{World, Failed, AreLater}
use Rattle.cmd_types.proofs.Besides.{pairs_beside}
use Rattle.cmd_types.proofs.Lifted.{does_runs}
use Rattle.cmd_stanza_create.specs.declared.fault.CreateFault.{CreateFault}
use Rattle.cmd_stanza_create.specs.Creating.{IsCreated, CreateCause, CreateCloses, create_early}
use Rattle.cmd_stanza_create.specs.Server.{Server}
use Rattle.cmd_stanza_create.specs.Talking.{Asks, IsOf}
use Rattle.cmd_trait.specs.Meaning.{Place, Unless, places_plan}
use Rattle.cmd_trait.specs.Faults.{own_of, of_own}
use Rattle.cmd_trait.specs.CallEffect.{PartEffect, SamePlaces, StaysHealed, Closes}
use Rattle.cmd_trait.proofs.Ends.{reached_same, own_err}
use Rattle.cmd_trait.proofs.CallEffects.{none_as}
use Rattle.cmd_trait.proofs.PartEffects.{ran_of, all_on, any_some, spool_kept}
use Rattle.run_stanza_create.specs.Creating.{IsCreateOf, create_meaning}
use Rattle.cmd_stanza_create.proofs.OneCluster.{cluster_is}

-- ---- what was made ready

there : {T : Type 0} (o : Option T) (x : T) (P : T → Type 0) → o ≡ Some x → IsSomeAnd o P → P x
there o x P is h = subst (λ (y : Option _). IsSomeAnd y P) is h

pub create_shows : (stanza : Text) (repo : Option Content) (nodes : Option Nodes) (ready : Ready) → IsReady (record places_plan { sync_scope = Whole; backup_lock = true; archive_lock = true; control = true }) stanza repo nodes ready → (known : Control) → ready.control ≡ Some known → IfSome nodes (λ f. FolderShows f known)
create_shows stanza repo nodes ready is known some = there ready.control known _ some (is.control refl)

unless_used : (uses : Bool) (P : Type 0) → (uses ≡ false → P) → Unless uses P
unless_used true P h = tt
unless_used false P h = h refl

-- ---- its own part

create_of : (nodes : Option Nodes) (known : Control) (command : Command) → IfSome nodes (λ f. FolderShows f known) → IsSomeAnd nodes (λ f. IsCreateOf f command) → command ≡ StanzaCreate (Some (first_cluster known))
create_of None known command shows is = absurd is
create_of (Some f) known command shows is = is.2 ∙ ap StanzaCreate (cluster_is (Some f) known is.0 shows is.1)

ok_with : {E : Type 0} (r : Result Outcome E) (P Q : Outcome → Type 0) (X Y : Type 0) → ((o : Outcome) → P o → X → Y → Q o) → IfOk r P → OnOk r X → OnOk r Y → IfOk r Q
ok_with (Ok o) P Q X Y to h x y = to o h x y
ok_with (Err e) P Q X Y to h x y = tt

module _ (p : Place) (server : Option Server) (b k : World) (rest : k ≡ record b { repo = k.repo; server = k.server }) (known : Control) (shows : IfSome b.tree.nodes (λ f. FolderShows f known)) (r : Result Outcome (Halt CreateFault)) where
  closes : (h : Halt CreateFault) → CreateCloses (Failed b k TheServer) k.server.sent h → Closes p (create_meaning server) b k (of_own h)
  closes (Refused fault) h = h
  closes (HaltFailed object) h = tt
  closes HaltMemory h = tt

  pub created_ran : ChangesOnly (IsOfPairs p.stanza) b.repo.view k.repo.view → RepoEffect Whole p.stanza (StanzaCreate (Some (first_cluster known))) (reached_by create_early r) b.repo.view k.repo.view → IfOk r (IsCreated p.stanza known b.repo.view.now k.repo.view.now) →
      OnNone (reached_by create_early r) (IsStill b.repo.view k.repo.view) → OnOk r (IfSome server (λ _. IsOf known.system b.server.pending)) → OnOk r (Asks server k.server.place b.server.sent k.server.sent) → (is_some server ≡ false → k.server ≡ b.server) →
      IfErr r (CreateCloses (Failed b k TheServer) k.server.sent) → (failed : Object → Type 0) → ((object : Object) → failed object → Failed b k object) →
      IfErr r (HaltCause (CreateCause p.stanza known server b.repo.view.now b.server.pending) failed) → SamePlaces b k → AreLater b k → PartEffect p (create_meaning server) b k (own_of r)
  created_ran only does created still same asked quiet closed failed rose cause places later =
      let command = StanzaCreate (Some (first_cluster known)) in
      let nodes = ap (λ (s : World). s.tree.nodes) rest in
      ran_of p (create_meaning server) b k failed rose (CreateCause p.stanza known server b.repo.view.now b.server.pending) (λ e h. (known, shows, h)) refl tt r tt
      (λ one x. subst (λ (c : Command). DisksEffect Whole p.stanza c (reached_by create_early r) b.repo.view b.spool.view k.repo.view k.spool.view) (sym (create_of b.tree.nodes known one shows x)) (subst (λ (v : View). DisksEffect Whole p.stanza command (reached_by create_early r) b.repo.view b.spool.view k.repo.view v) (sym (ap (λ (s : World). s.spool.view) rest))
      (does_runs Whole p.stanza command (reached_by create_early r) b.repo.view k.repo.view b.spool.view (λ q log keeps. create_spool p.stanza (Some (first_cluster known)) true q log b.spool.view keeps) does)))
      (ok_with r _ _ _ _ (λ o made agrees asks. record { known = known; shows = shows; created = made; agrees = agrees; asks = asks }) created same asked)
      tt
      tt
      cause
      (all_on r (StaysHealed p (create_meaning server) b k) (record { agree = λ some h. any_some k.repo.view.now; lasts = λ synced some h. tt }))
      (record {
        beside = λ turns. pairs_beside p.stanza b.repo.view k.repo.view only;
        spool = λ turns. spool_kept p.stanza b k (ap (λ (s : World). s.spool.view) rest);
        repository = λ known. only;
        folder = nodes;
        others = ap (λ (s : World). s.others) rest;
        turned = subst (λ (reached : Reached). OnNone reached ((k.tree.nodes ≡ b.tree.nodes) × (k.repo.view.now ≡ b.repo.view.now))) (sym (reached_same (create_meaning server) r))
            (none_as (reached_by create_early r) _ _ (λ (s : IsStill b.repo.view k.repo.view). (nodes, s.now)) still);
        server = unless_used (is_some server) _ quiet;
        workers = ap (λ (s : World). s.links) rest;
        clock = ap (λ (s : World). s.clock) rest;
        closed = own_err (CreateCloses (Failed b k TheServer) k.server.sent) (Closes p (create_meaning server) b k) closes r closed;
      })
      places later
