-- What stanza-upgrade means.
use Rattle.std.specs.Prelude.{◌≡◌, true, Option, is_some, IfSome, IsSomeAnd}
use Rattle.base_devices.specs.DataFolder.{Nodes}
use Rattle.base_disk.specs.Store.{ChangesOnly}
use Rattle.base_model.specs.declared.clusters.Cluster.{Cluster}
use Rattle.base_model.specs.Steps.{Command, StanzaUpgrade}
use Rattle.base_model.specs.Text.{Text}
use Rattle.repo_stanza.specs.declared.control.Control.{Control}
use Rattle.repo_stanza.specs.Owned.{IsOfPairs}
use Rattle.cmd_types.specs.declared.stages.object.Object.TheVariants.{Server as TheServer}
use Rattle.cmd_types.specs.declared.stages.outcome.Outcome.{Outcome}
use Rattle.cmd_types.specs.Cluster.{FolderShows, IsClusterOf}
use Rattle.cmd_types.specs.Reached.{OnFinished}
use Rattle.cmd_types.specs.DisksEffect.{each}
use Rattle.cmd_stanza_create.specs.Server.{Server}
use Rattle.cmd_stanza_create.specs.Talking.{Asks, IsOf}
use Rattle.cmd_stanza_upgrade.specs.declared.fault.UpgradeCommandFault.{UpgradeCommandFault}
use Rattle.cmd_stanza_upgrade.specs.Faults.{UpgradeCommandCause, UpgradeCloses, upgrade_early}
use Rattle.cmd_stanza_upgrade.specs.Texts.{upgrade_status, upgrade_message}
use Rattle.cmd_stanza_upgrade.specs.Upgrading.{IsUpgraded}
use Rattle.cmd_trait.specs.KnownWorld.{KnownWorld}
use Rattle.cmd_trait.specs.Meaning.{Meaning, nothing, reading_plan, usual_meaning}

-- stanza-upgrade to the cluster that the folder states, where one is known
abbrev pub IsUpgradeOf : Nodes → Command → Type 0
IsUpgradeOf f command = (cluster : Option Cluster) × IsClusterOf f cluster × (command ≡ StanzaUpgrade cluster)

-- the data folder states this cluster, and this holds of it
abbrev pub OnStated : Option Nodes → (Control → Type 0) → Type 0
OnStated nodes P = (known : Control) × IfSome nodes (λ f. FolderShows f known) × P known

-- Ok of stanza-upgrade: the folder's cluster was added or was the current one, and the line says which; where a server
-- is asked it was asked at its socket and is of the cluster's system
pub record Upgrades (stanza : Text) (server : Option Server) (old new : KnownWorld) (outcome : Outcome) : Type 0 where
  pub known : Control
  pub shows : IfSome old.nodes (λ f. FolderShows f known)
  pub upgraded : OnFinished outcome (IsUpgraded stanza known old.repo new.repo)
  pub agrees : IfSome server (λ _. IsOf known.system old.server.pending)
  pub asks : Asks server new.server.place old.server.sent new.server.sent

abbrev pub upgrade_meaning : Option Server → Meaning UpgradeCommandFault
upgrade_meaning server = record (usual_meaning upgrade_status upgrade_message) {
  -- both locks are taken, the whole stanza is synced, of the data folder the control file is read, and both pairs are
  plan = record reading_plan { folder = true; backup_lock = true; archive_lock = true; control = true };
  uses = record nothing { server = is_some server };
  unsyncs = true;
  manner = λ p old new. each (λ command. IsSomeAnd old.nodes (λ f. IsUpgradeOf f command));
  promise = λ p old new outcome. Upgrades p.stanza server old new outcome;
  cause = λ p old new failed fault. OnStated old.nodes
      (λ known. UpgradeCommandCause p.stanza known server old.repo old.server.pending fault);
  closes = λ p old new failed fault. UpgradeCloses (failed TheServer) old.server.sent new.server.sent fault;
  early = upgrade_early;
  repo_effect = λ p least old new. ChangesOnly (IsOfPairs p.stanza) old new;
  turned = λ p old new n. (new.nodes ≡ old.nodes) × (new.repo ≡ old.repo);
}
