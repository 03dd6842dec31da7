-- What the steps of a rehearsal do, and why they end, by what is known of the devices before and after. Own.
use Rattle.std.specs.Prelude.{◌≡◌, [], ◌∷◌, ℕ, Option, Result, IfOk, IfErr, IfSome, IsSome}
use Rattle.base_devices.specs.Content.{Content}
use Rattle.base_devices.specs.States.{DiskState, DataFolderState, ClockState, LocksState, DiskFailed}
use Rattle.base_model.specs.declared.clusters.ClusterId.{ClusterId}
use Rattle.base_model.specs.declared.wal.ArchiveId.{ArchiveId}
use Rattle.base_model.specs.Repository.{Backup}
use Rattle.base_model.specs.Steps.{ArchivePush}
use Rattle.base_model.specs.Text.{Text}
use Rattle.cmd_types.specs.declared.stages.halt.Halt.{Halt}
use Rattle.cmd_types.specs.declared.stages.object.Object.{Object}
use Rattle.cmd_types.specs.declared.stages.object.Object.TheVariants.{Repo}
use Rattle.cmd_types.specs.declared.stages.outcome.Outcome.{Outcome}
use Rattle.cmd_types.specs.declared.stages.plan.SyncScope.TheVariants.{Whole}
use Rattle.cmd_types.specs.Current.{HasCurrent, id_kept}
use Rattle.cmd_types.specs.DisksEffect.{DoesPart, DoesWhole, RepoEffect}
use Rattle.cmd_types.specs.Halts.{HaltCause, Only}
use Rattle.cmd_types.specs.Plans.{archive_lock, backup_lock}
use Rattle.cmd_types.specs.Reached.{reached_by}
use Rattle.cmd_rehearse.specs.declared.backup_step.BackupStep.{BackupStep}
use Rattle.cmd_rehearse.specs.declared.cluster_life.Lived.{Lived}
use Rattle.cmd_rehearse.specs.declared.fault.RehearseFault.{RehearseFault}
use Rattle.cmd_rehearse.specs.declared.fault.StepFault.{StepFault}
use Rattle.cmd_rehearse.specs.declared.final_restore.RehearsalEnd.{RehearsalEnd}
use Rattle.cmd_rehearse.specs.declared.order.RehearseOrder.{RehearseOrder}
use Rattle.cmd_rehearse.specs.declared.telling.Summary.{Summary}
use Rattle.cmd_rehearse.specs.Advancing.{Advances, Carries}
use Rattle.cmd_rehearse.specs.Backups.{IsTakenBy}
use Rattle.cmd_rehearse.specs.Causes.{StepCause, PartCause, PrefixCause, PushesCause, RehearseCause, Fails, FailsBoth}
use Rattle.cmd_rehearse.specs.Commands.{backed_up, keeps_one, pushed, rehearsed, segment_named}
use Rattle.cmd_rehearse.specs.Faults.{rehearse_early}
use Rattle.cmd_rehearse.specs.Rehearsing.{IsEnded, IsLived, IsRehearsed, IsRestoredLast, count_of}

-- both locks of the stanza are held
abbrev pub HoldsBoth : Text → LocksState → Type 0
HoldsBoth stanza locks = locks.taken ≡ archive_lock stanza ∷ backup_lock stanza ∷ []

-- ---- why a step ends

-- it was refused for this of what the repository held, or the repository failed
abbrev pub RepoHalt : {E : Type 0} → (Option Content → E → Type 0) → DiskState → DiskState → Halt E → Type 0
RepoHalt why old new = HaltCause (why old.view.now) (Only Repo (DiskFailed old new))

-- the repository, the data folder or the clock failed
abbrev pub AnyFailed : {D T C : Type 0} → (D → DiskState) → (T → DataFolderState) → (C → ClockState) → D → D → T → T → C
    → C → Object → Type 0
AnyFailed disk folder clock repo new_repo tree new_tree time new_time =
    Fails (disk repo).faults (disk new_repo).faults (folder tree).faults (folder new_tree).faults (clock time).faults
    (clock new_time).faults

-- why the end of a rehearsal isn't reached: the repository or the data folder may have failed
abbrev pub EndHalt : {D T : Type 0} → (D → DiskState) → (T → DataFolderState) → RehearseOrder → D → D → T → T
    → Halt StepFault → Type 0
EndHalt disk folder order repo new_repo tree new_tree = HaltCause (StepCause order.stanza.now (disk repo).view.now)
    (FailsBoth (disk repo).faults (disk new_repo).faults (folder tree).faults (folder new_tree).faults)

-- why no backup is made
abbrev pub BackupHalt : {D T C R : Type 0} → (D → DiskState) → (T → DataFolderState) → (C → ClockState) → BackupStep
    → Result R (Halt StepFault) → D → D → T → T → C → C → Type 0
BackupHalt disk folder clock step result repo new_repo tree new_tree time new_time =
    IfErr result (HaltCause (StepCause step.stanza.now (disk repo).view.now)
    (AnyFailed disk folder clock repo new_repo tree new_tree time new_time))

-- why a cluster's life is cut short
abbrev pub LifeHalt : {D T C R : Type 0} → (D → DiskState) → (T → DataFolderState) → (C → ClockState) → RehearseOrder
    → Result R (Halt StepFault) → D → D → T → T → C → C → Type 0
LifeHalt disk folder clock order result repo new_repo tree new_tree time new_time =
    IfErr result (HaltCause (PrefixCause order.stanza.now order.number (disk repo).view.now)
    (AnyFailed disk folder clock repo new_repo tree new_tree time new_time))

-- why a rehearsal ends
abbrev pub RehearseHalt : {D T C R : Type 0} → (D → DiskState) → (T → DataFolderState) → (C → ClockState)
    → RehearseOrder → Result R (Halt RehearseFault) → D → D → T → T → C → C → Type 0
RehearseHalt disk folder clock order result repo new_repo tree new_tree time new_time =
    IfErr result (HaltCause (RehearseCause order.stanza.now order.number (disk repo).view.now (folder tree).nodes)
    (AnyFailed disk folder clock repo new_repo tree new_tree time new_time))

-- ---- pushes

-- this holds where the id is that of the archive's current cluster
abbrev pub WhereCurrent : Text → ArchiveId → DiskState → Type 0 → Type 0
WhereCurrent stanza id old P = (c : ClusterId) → id ≡ id_kept c → IfSome old.view.now (λ f. HasCurrent stanza f c) → P

-- a part of the push of the segment of this number, and all of it
abbrev pub PushesPart : Text → ArchiveId → ℕ → DiskState → DiskState → Type 0
PushesPart stanza id number old new = WhereCurrent stanza id old
    (DoesPart Whole stanza (ArchivePush (segment_named number)) old.view new.view)

abbrev pub PushesWhole : Text → ArchiveId → ℕ → DiskState → DiskState → Type 0
PushesWhole stanza id number old new = WhereCurrent stanza id old
    (DoesWhole Whole stanza (ArchivePush (segment_named number)) old.view new.view)

-- the current cluster stays
abbrev pub KeepsCurrent : Text → DiskState → DiskState → Type 0
KeepsCurrent stanza old new = (c : ClusterId) → IfSome old.view.now (λ f. HasCurrent stanza f c) → IsSome old.view.now
    → IfSome new.view.now (λ f. HasCurrent stanza f c)

-- the pushes of this many segments
abbrev pub PushesAll : {R E : Type 0} → Text → ArchiveId → ℕ → Result R E → DiskState → DiskState → Type 0
PushesAll stanza id count result old new = WhereCurrent stanza id old
    (Advances stanza (pushed count) result old.view new.view)

-- why they end
abbrev pub PushesHalt : {R : Type 0} → Text → ArchiveId → ℕ → Result R (Halt StepFault) → DiskState → DiskState → Type 0
PushesHalt stanza id count result old new = WhereCurrent stanza id old
    (IfErr result (RepoHalt (PushesCause stanza count) old new))

-- ---- backups

-- a backup of the step's kind was made
abbrev pub IsTakenAs : BackupStep → DiskState → DiskState → Type 0
IsTakenAs step old new = IsTakenBy step.stanza.now step.kind old.view.now new.view.now

-- some backup is made
abbrev pub BacksUp : {R E : Type 0} → Text → Result R E → DiskState → DiskState → Type 0
BacksUp stanza result old new = (b : Backup) × Advances stanza (backed_up b) result old.view new.view

-- some backup is made; it is refused, or what is read after it, or one of the devices failed
abbrev pub BacksUpFor : {D T C R : Type 0} → (D → DiskState) → (T → DataFolderState) → (C → ClockState) → Text
    → Result R (Halt StepFault) → D → D → T → T → C → C → Type 0
BacksUpFor disk folder clock stanza result repo new_repo tree new_tree time new_time = (b : Backup)
    × Advances stanza (backed_up b) result (disk repo).view (disk new_repo).view
    × IfErr result (HaltCause (PartCause stanza (backed_up b) (disk repo).view.now)
    (AnyFailed disk folder clock repo new_repo tree new_tree time new_time))

-- ---- the whole

-- some three backups are made after the segments, and what one full backup doesn't need is expired
abbrev pub Lives : {E : Type 0} → RehearseOrder → Result Lived E → DiskState → DiskState → Type 0
Lives order result old new = (b : Backup) × (c : Backup) × (d : Backup)
    × Carries order.stanza.now (rehearsed order.number keeps_one b c d) result old.view new.view
    × IfOk result (IsLived order.stanza.now order.number b c d old.view.now)

-- the last backup was restored
abbrev pub RestoresLast : RehearseOrder → DiskState → DataFolderState → Type 0
RestoresLast order repo tree = IsRestoredLast order.stanza.now repo.view.now tree.nodes

-- the rehearsal ends with these numbers
abbrev pub ComesToEnd : RehearseOrder → DiskState → DataFolderState → RehearsalEnd → Type 0
ComesToEnd order repo tree e = IsEnded order.stanza.now repo.view.now tree.nodes e.kept e.restored e.found

-- what is reported of a life and its end
abbrev pub summary_by : Lived → RehearsalEnd → Summary
summary_by lived ended = record {
  first = lived.first;
  second = lived.second;
  third = lived.third;
  expired = lived.expired;
  kept = ended.kept;
  restored = ended.restored;
  findings = count_of ended.found;
}

-- a cluster lives, its last backup is restored into the data folder, and the repository is verified
abbrev pub GoesThrough : {E : Type 0} → RehearseOrder → Result Outcome E → DiskState → DiskState → DataFolderState
    → Type 0
GoesThrough order result old new tree = (b : Backup) × (c : Backup) × (d : Backup)
    × Carries order.stanza.now (rehearsed order.number keeps_one b c d) result old.view new.view
    × IfOk result (IsRehearsed order.stanza.now order.number b c d old.view.now new.view.now tree.nodes)

-- so it is of the whole command
abbrev pub Rehearses : RehearseOrder → Result Outcome (Halt RehearseFault) → DiskState → DiskState → DataFolderState
    → Type 0
Rehearses order result old new tree = (b : Backup) × (c : Backup) × (d : Backup)
    × RepoEffect Whole order.stanza.now (rehearsed order.number keeps_one b c d) (reached_by rehearse_early result)
    old.view new.view
    × IfOk result (IsRehearsed order.stanza.now order.number b c d old.view.now new.view.now tree.nodes)
