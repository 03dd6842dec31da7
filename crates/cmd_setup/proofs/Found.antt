-- Why the backup pair has no value is what the stages found.
use Rattle.std.proofs.Common.{◌≡◌, ◌≤◌, inr, Option, Some, None, Result}
use Rattle.std.specs.Prelude.{IfErr, IfSome, IsErrAnd, IsSomeAnd}
use Rattle.base_devices.specs.Cause.{Rises}
use Rattle.base_devices.specs.States.{DiskState, DataFolderState}
use Rattle.base_devices.specs.DataFolder.{Nodes}
use Rattle.base_model.specs.declared.clusters.ArchiveInfo.{ArchiveInfo}
use Rattle.base_model.specs.Text.{Text}
use Rattle.archive_store.specs.Still.{IsStill}
use Rattle.repo_stanza.specs.declared.control.Control.{Control}
use Rattle.cmd_types.specs.declared.stages.fault.StageFault.{StageFault}
use Rattle.cmd_types.specs.declared.stages.halt.Halt.{Halt}
use Rattle.cmd_types.specs.declared.stages.object.Object.TheVariants.{Repo}
use Rattle.cmd_types.specs.declared.stages.plan.Plan.{Plan}
use Rattle.cmd_types.specs.Cluster.{FolderShows}
use Rattle.cmd_types.specs.Halts.{Only}
use Rattle.cmd_types.specs.Plans.{OnReading}
use Rattle.cmd_types.proofs.Counts.{rises_from}
use Rattle.cmd_setup.specs.Folder.{IsKnown}
use Rattle.cmd_setup.specs.Readies.{has_archive, IfAsked, IsArchiveOf}
use Rattle.cmd_setup.specs.Stages.{FoundCause, NoBackup, RepoCause, StopCause}
use Rattle.cmd_setup.proofs.Ends.{Either, ends_as, of_repo}
use Rattle.cmd_setup.proofs.Readings.{backup_refuses}

one_known : (nodes : Option Nodes) (control : Option Control) → IsSomeAnd control (IsKnown nodes) → IfSome nodes (λ f. (known : Control) × FolderShows f known)
one_known None control h = tt
one_known (Some f) (Some known) h = (known, h)
one_known (Some f) None h = absurd h

module _ (plan : Plan) (stanza : Text) (a b d : DiskState) (t u : DataFolderState) (control : Option Control) (archive : Option ArchiveInfo)
    (known : IfAsked plan.control (IsKnown t.nodes) control) (later : a.faults ≤ b.faults) (still : OnReading plan.pairs (IsStill a.view b.view))
    (found : IfAsked (has_archive plan.pairs) (IsArchiveOf stanza b.view.now) archive) where
  found_by : (e : StageFault) → NoBackup plan.pairs stanza b.view.now e → FoundCause plan stanza a.view.now t.nodes e
  found_by e h = inr ((λ asked. one_known t.nodes control (known asked)), inr (backup_refuses plan.pairs stanza a.view b.view archive e still found h))

  pub backup_ends : {T : Type 0} (result : Result T (Halt StageFault)) (h : Halt StageFault) → IsErrAnd result (λ x. x ≡ h) →
      RepoCause (NoBackup plan.pairs stanza) b d h → IfErr result (StopCause plan stanza a d t u)
  backup_ends result h is cause = ends_as (NoBackup plan.pairs stanza b.view.now) (FoundCause plan stanza a.view.now t.nodes)
      (Only Repo (Rises b.faults d.faults)) (Either (Rises a.faults d.faults) (Rises t.faults u.faults)) found_by
      (of_repo (Rises a.faults d.faults) (Rises t.faults u.faults) (Rises b.faults d.faults) (rises_from a.faults b.faults d.faults later))
      result h is cause
