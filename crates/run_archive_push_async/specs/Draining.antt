-- What archive-push:async means.
use Rattle.std.specs.Prelude.{Bool, true, List, Option, Some, IfSome, IsSome, IsSomeAnd}
use Rattle.base_devices.specs.Content.{Content}
use Rattle.base_devices.specs.DataFolder.{Nodes}
use Rattle.base_devices.specs.Moments.{View}
use Rattle.base_model.specs.Steps.{Command, Named}
use Rattle.base_model.specs.Text.{Text}
use Rattle.repo_stanza.specs.declared.control.Control.{Control}
use Rattle.cmd_archive_push.specs.declared.fault.PushFault.{PushFault}
use Rattle.cmd_archive_push.specs.Putting.{PutsAtMost}
use Rattle.cmd_archive_push.specs.Texts.{push_message}
use Rattle.cmd_archive_push_async.specs.Drained.{AreLasting, IsDrainOf, IsDrained, DrainCause, drain_early, drain_status}
use Rattle.cmd_types.specs.declared.stages.outcome.Outcome.{Outcome}
use Rattle.cmd_types.specs.declared.stages.plan.Pairs.TheVariants.{HealArchive}
use Rattle.cmd_types.specs.declared.stages.plan.SyncScope.TheVariants.{Whole}
use Rattle.cmd_types.specs.Cluster.{FolderShows}
use Rattle.cmd_types.specs.DisksEffect.{provided}
use Rattle.cmd_types.specs.Reached.{OnFinished}
use Rattle.cmd_trait.specs.KnownWorld.{KnownWorld}
use Rattle.cmd_trait.specs.Meaning.{Meaning, nothing, places_plan, usual_meaning}

-- it stores some of the files that the data folder has
abbrev pub IsSomeDrain : Nodes → Command → Type 0
IsSomeDrain f command = (whole : Bool) × IsDrainOf f whole command

-- Ok of archive-push:async: this is what became of the files that are ready, of the cluster that the data folder
-- reports, by what the repository then holds, and each has its mark in the spool
pub record Drains (stanza : Text) (old new : KnownWorld) (outcome : Outcome) : Type 0 where
  pub known : Control
  pub shows : IfSome old.nodes (λ f. FolderShows f known)
  pub drained : OnFinished outcome
      (λ lines. IfSome old.nodes (λ f. IsDrained stanza f known old.repo new.repo old.spool new.spool lines))

-- In all that a crash leaves each file that was stored is as the repository has it, of the cluster that the data folder
-- reports.
abbrev pub LastsDrained : Text → Option Nodes → View → Type 0
LastsDrained stanza nodes repo = IfSome nodes (λ f. (known : Control) × AreLasting stanza f known repo)

-- What it may change in the repository, whatever lies there: of what the disk holds no name changes but the members of
-- the archive pair, temporary ones, and paths of files of the log with the sums of their bytes. These are put there,
-- under the id of the current cluster.
abbrev pub DrainEffect : Text → Option Content → Option Content → Type 0
DrainEffect stanza old new = (files : List Named) × PutsAtMost stanza files old new

abbrev pub drain_meaning : (spool : Text) → Meaning PushFault
drain_meaning spool = record (usual_meaning drain_status push_message) {
  -- the archive lock is taken, the stanza synced, the control file read and the archive pair healed
  plan = record places_plan { sync_scope = Whole; archive_lock = true; control = true; pairs = HealArchive };
  spool = Some spool;
  uses = record nothing { spool = true };
  manner = λ p old new. provided (IsSome old.nodes) (λ command. IsSomeAnd old.nodes (λ f. IsSomeDrain f command));
  promise = λ p old new outcome. Drains p.stanza old new outcome;
  lasts = λ p nodes repo now_nodes outcome. LastsDrained p.stanza nodes repo;
  cause = λ p old new failed fault. DrainCause p.stanza old.repo new.repo old.nodes fault;
  early = drain_early;
  repo_effect = λ p least old new. DrainEffect p.stanza old.now new.now;
}
