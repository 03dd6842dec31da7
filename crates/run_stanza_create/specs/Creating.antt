-- What stanza-create means.
use Rattle.std.specs.Prelude.{◌≡◌, true, Option, is_some, IfSome, IsSomeAnd}
use Rattle.base_devices.specs.DataFolder.{Nodes}
use Rattle.base_disk.specs.Store.{ChangesOnly}
use Rattle.base_model.specs.declared.clusters.Cluster.{Cluster}
use Rattle.base_model.specs.Steps.{Command, StanzaCreate}
use Rattle.base_model.specs.Text.{Text}
use Rattle.repo_stanza.specs.declared.control.Control.{Control}
use Rattle.repo_stanza.specs.Owned.{IsOfPairs}
use Rattle.cmd_types.specs.declared.stages.halt.Halt.TheVariants.{Refused}
use Rattle.cmd_types.specs.declared.stages.object.Object.TheVariants.{Server as TheServer}
use Rattle.cmd_types.specs.declared.stages.outcome.Outcome.{Outcome}
use Rattle.cmd_types.specs.declared.stages.plan.SyncScope.TheVariants.{Whole}
use Rattle.cmd_types.specs.Cluster.{FolderShows, IsClusterOf}
use Rattle.cmd_types.specs.DisksEffect.{each}
use Rattle.cmd_stanza_create.specs.declared.fault.CreateFault.{CreateFault}
use Rattle.cmd_stanza_create.specs.Creating.{IsCreated, CreateCause, CreateCloses, create_early}
use Rattle.cmd_stanza_create.specs.Server.{Server}
use Rattle.cmd_stanza_create.specs.Talking.{Asks, IsOf}
use Rattle.cmd_stanza_create.specs.Texts.{create_status, create_message}
use Rattle.cmd_trait.specs.KnownWorld.{KnownWorld}
use Rattle.cmd_trait.specs.Meaning.{Meaning, nothing, places_plan, usual_meaning}

-- stanza-create of the cluster that the folder states, where one is known
abbrev pub IsCreateOf : Nodes → Command → Type 0
IsCreateOf f command = (cluster : Option Cluster) × IsClusterOf f cluster × (command ≡ StanzaCreate cluster)

-- the data folder reports this cluster, and this holds of it
abbrev pub OnCluster : Option Nodes → (Control → Type 0) → Type 0
OnCluster nodes P = (known : Control) × IfSome nodes (λ f. FolderShows f known) × P known

-- Ok of stanza-create: the stanza is made, or was there; and where a server is asked it was asked at its socket and is
-- of the folder's system
pub record Creates (stanza : Text) (server : Option Server) (old new : KnownWorld) (outcome : Outcome) : Type 0 where
  pub known : Control
  pub shows : IfSome old.nodes (λ f. FolderShows f known)
  pub created : IsCreated stanza known old.repo new.repo outcome
  pub agrees : IfSome server (λ _. IsOf known.system old.server.pending)
  pub asks : Asks server new.server.place old.server.sent new.server.sent

abbrev pub create_meaning : Option Server → Meaning CreateFault
create_meaning server = record (usual_meaning create_status create_message) {
  -- both locks are taken, the whole stanza is synced, and of the data folder the control file is read
  plan = record places_plan { sync_scope = Whole; backup_lock = true; archive_lock = true; control = true };
  uses = record nothing { server = is_some server };
  unsyncs = true;
  manner = λ p old new. each (λ command. IsSomeAnd old.nodes (λ f. IsCreateOf f command));
  promise = λ p old new outcome. Creates p.stanza server old new outcome;
  cause = λ p old new failed fault. OnCluster old.nodes
      (λ known. CreateCause p.stanza known server old.repo old.server.pending fault);
  closes = λ p old new failed fault. CreateCloses (failed TheServer) new.server.sent (Refused fault);
  early = create_early;
  repo_effect = λ p least old new. ChangesOnly (IsOfPairs p.stanza) old new;
  turned = λ p old new n. (new.nodes ≡ old.nodes) × (new.repo ≡ old.repo);
}
