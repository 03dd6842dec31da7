-- What the stages do to the repository, by what is known of it before and after, and why they end.
use Rattle.std.specs.Prelude.{IsSome}
use Rattle.base_devices.specs.Moments.{View, SyncsFolders}
use Rattle.base_devices.specs.States.{DiskState, DataFolderState}
use Rattle.base_disk.specs.Store.{ChangesOnly}
use Rattle.base_model.specs.Names.{archive_info}
use Rattle.base_model.specs.Text.{Text}
use Rattle.base_model.specs.Walks.{IsSynced}
use Rattle.repo_pair.specs.Member.{IsMember, IsOfPair, KeepsMembers}
use Rattle.archive_store.specs.Still.{IsStill}
use Rattle.cmd_types.specs.declared.stages.plan.Pairs.{Pairs}
use Rattle.cmd_types.specs.declared.stages.plan.Pairs.TheVariants.{HealArchive}
use Rattle.cmd_types.specs.declared.stages.plan.Plan.{Plan}
use Rattle.cmd_types.specs.declared.stages.fault.StageFault.{StageFault}
use Rattle.cmd_types.specs.declared.stages.halt.Halt.{Halt}
use Rattle.cmd_types.specs.DisksEffect.{Begins}
use Rattle.cmd_types.specs.Plans.{Heals, HealsToLast}
use Rattle.cmd_setup.specs.Stages.{StopCause}

-- where all that a crash left had of the archive pair what the disk held, it does so still
abbrev pub KeepsArchivePair : Text → DiskState → DiskState → Type 0
KeepsArchivePair stanza old new = KeepsMembers (archive_info stanza) old.view new.view

-- the folder of the archive pair was synced
abbrev pub SyncsArchivePair : Text → DiskState → DiskState → Type 0
SyncsArchivePair stanza old new = SyncsFolders (IsMember (archive_info stanza)) old.view new.view

-- what the plan syncs was synced, so that a command's own part can begin
abbrev pub BeginsBy : Plan → Text → DiskState → DiskState → Type 0
BeginsBy plan stanza old new = Begins plan.sync_scope stanza old.view new.view

-- the disk holds what it held, except for a pair that the plan heals
abbrev pub HealsBy : Plan → Text → DiskState → DiskState → Type 0
HealsBy plan stanza old new = Heals plan.pairs stanza old.view.now new.view.now

-- where no name that is looked at was unsynced, none becomes so
abbrev pub StaysSynced : Text → View → View → Type 0
StaysSynced stanza old new = IsSynced stanza old → IsSome old.now → IsSynced stanza new

-- no name changes but the members of the archive pair and the name at which a member's bytes are put first
abbrev pub ChangesPair : Text → View → View → Type 0
ChangesPair stanza old new = ChangesOnly (IsOfPair (archive_info stanza)) old new

-- the pair is healed at most
pub record HealsOnly (stanza : Text) (old new : View) : Type 0 where
  pub known : IsSome old.now → IsSome new.now
  pub only : ChangesPair stanza old new

-- what the stages leave: where the archive pair is healed all but it, else all
abbrev pub LeavesPair : Pairs → Text → View → View → Type 0
LeavesPair HealArchive stanza old new = HealsOnly stanza old new
LeavesPair other stanza old new = IsStill old new

-- where no name was unsynced, no crash undoes what was healed
abbrev pub HealsForGood : Plan → Text → DiskState → DiskState → Type 0
HealsForGood plan stanza old new = IsSynced stanza old.view → IsSome old.view.now
    → HealsToLast plan.pairs stanza new.view

-- why nothing is made ready, by the states of the repository and of the data folder
abbrev pub NotReady : {D T : Type 0} → (D → DiskState) → (T → DataFolderState) → Plan → Text → D → D → T → T
    → Halt StageFault → Type 0
NotReady disk folder plan stanza repo new_repo tree new_tree =
    StopCause plan stanza (disk repo) (disk new_repo) (folder tree) (folder new_tree)
