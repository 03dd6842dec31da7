-- What archive-push means.
use Rattle.std.specs.Prelude.{◌≤◌, true, List, Option, IsSomeAnd, length}
use Rattle.base_model.specs.declared.wal.ArchiveName.{ArchiveName}
use Rattle.base_devices.specs.Content.{Content}
use Rattle.base_model.specs.Steps.{Named}
use Rattle.base_model.specs.Text.{Text, In}
use Rattle.cmd_types.specs.declared.stages.plan.Pairs.TheVariants.{HealArchive}
use Rattle.cmd_types.specs.Reached.{OnFinished}
use Rattle.cmd_types.specs.DisksEffect.{each}
use Rattle.cmd_archive_push.specs.declared.fault.PushFault.{PushFault}
use Rattle.cmd_archive_push.specs.Causes.{IsStored, IsLasting, PushCause}
use Rattle.cmd_archive_push.specs.Commands.{IsPushOf}
use Rattle.cmd_archive_push.specs.Faults.{push_early}
use Rattle.cmd_archive_push.specs.Putting.{PutsAtMost}
use Rattle.cmd_archive_push.specs.Texts.{push_status, push_message}
use Rattle.cmd_archive_push.specs.WalCause.{WordCause}
use Rattle.cmd_archive_push.specs.WalPath.{IsWalPath}
use Rattle.cmd_trait.specs.Meaning.{Meaning, Place, places_plan, usual_meaning}

-- What it may change in the repository, whatever lies there. Of what the disk holds no name changes but the members of
-- the archive pair, temporary ones, and the path of the file that the server names, with the sum of its bytes. The bytes
-- are put there, under the id of the current cluster.
pub record PushEffect (p : Place) (path : Text) (old new : Option Content) : Type 0 where
  pub files : List Named
  pub few : length files ≤ 1
  pub named : (file : Named) → In file files → IsWalPath p.data_folder path file.name
  pub puts : PutsAtMost p.stanza files old new

abbrev pub push_meaning : Text → Meaning PushFault
push_meaning path = record (usual_meaning push_status push_message) {
  -- the archive lock is taken, the folder of the archive pair synced, the control file read and the archive pair healed
  plan = record places_plan { archive_lock = true; control = true; pairs = HealArchive };
  manner = λ p old new. each (λ command. IsSomeAnd old.nodes (λ f. IsPushOf f p.data_folder path command));
  promise = λ p old new outcome. OnFinished outcome (IsStored p.stanza p.data_folder path old.nodes old.repo new.repo);
  lasts = λ p nodes repo now_nodes outcome. OnFinished outcome (λ lines. IsLasting p.stanza p.data_folder path repo);
  arguments = λ p. (name : ArchiveName) × IsWalPath p.data_folder path name;
  arguments_cause = λ p fault. WordCause p.data_folder path fault;
  cause = λ p old new failed fault. PushCause p.stanza p.data_folder path old.repo old.nodes fault;
  early = push_early;
  repo_effect = λ p least old new. PushEffect p path old.now new.now;
}
