-- Why a command doesn't reach its own part.
use Rattle.std.specs.Prelude.{◌≡◌, ◌⊎◌, Option, IfSome, IsTrue, string_bytes}
use Rattle.base_devices.specs.Cause.{Rises}
use Rattle.base_devices.specs.Content.{Content}
use Rattle.base_devices.specs.States.{DiskState, DataFolderState}
use Rattle.base_devices.specs.DataFolder.{Nodes}
use Rattle.base_model.specs.InfoFiles.{IsArchiveText, info_limit}
use Rattle.base_model.specs.Names.{archive_info}
use Rattle.base_model.specs.Text.{Text}
use Rattle.repo_info.specs.ArchiveForm.{IsArchiveForm}
use Rattle.repo_pair.specs.Causes.{PairCause}
use Rattle.repo_pair.specs.declared.fault.InfoFault.{InfoFault}
use Rattle.repo_pair.specs.declared.fault.InfoFault.TheVariants.{Missing, Damaged, Disk as InfoDisk, NoMemory as InfoNoMemory}
use Rattle.repo_stanza.specs.declared.control.Control.{Control}
use Rattle.cmd_types.specs.declared.stages.plan.Plan.{Plan}
use Rattle.cmd_types.specs.declared.stages.fault.StageFault.{StageFault}
use Rattle.cmd_types.specs.declared.stages.fault.StageFault.TheVariants.{StanzaMissing, InfoDamaged}
use Rattle.cmd_types.specs.declared.stages.halt.Halt.{Halt}
use Rattle.cmd_types.specs.declared.stages.halt.Halt.TheVariants.{Refused, Failed, NoMemory}
use Rattle.cmd_types.specs.declared.stages.object.Object.{Object}
use Rattle.cmd_types.specs.declared.stages.object.Object.TheVariants.{Repo}
use Rattle.cmd_types.specs.declared.stages.plan.Pairs.{Pairs}
use Rattle.cmd_types.specs.Cluster.{FolderShows, ClusterCause}
use Rattle.cmd_types.specs.Current.{HasArchive, ArchiveCause, BackupCause}
use Rattle.cmd_types.specs.Halts.{HaltCause, Only}
use Rattle.cmd_types.specs.Risen.{none, rose_in}
use Rattle.cmd_setup.specs.Readies.{has_archive, has_backup}
use Rattle.cmd_setup.specs.Taking.{HeldCause}
use Rattle.cmd_types.specs.World.{World}

-- ---- a pair

-- which end a fault of the archive pair is
abbrev pub IsArchiveFault : Text → InfoFault → Halt StageFault → Type 0
IsArchiveFault stanza Missing (Refused (StanzaMissing word)) = string_bytes word ≡ stanza
IsArchiveFault stanza Missing NoMemory = Unit {0}
IsArchiveFault stanza (Damaged of_main of_copy) (Refused (InfoDamaged name main copy)) =
    (string_bytes name ≡ archive_info stanza) × (main ≡ of_main) × (copy ≡ of_copy)
IsArchiveFault stanza InfoDisk (Failed object) = object ≡ Repo
IsArchiveFault stanza InfoNoMemory NoMemory = Unit {0}
IsArchiveFault stanza fault other = ⊥

-- why a call on the archive pair gives no value
abbrev pub ArchivePairCause : Text → DiskState → DiskState → InfoFault → Type 0
ArchivePairCause stanza old new fault =
    PairCause IsArchiveText IsArchiveForm info_limit (archive_info stanza) old.view.now (Rises old.faults new.faults)
    fault

-- the archive pair is read, and has no value
abbrev pub NoArchive : Pairs → Text → Option Content → StageFault → Type 0
NoArchive pairs stanza repo fault = IsTrue (has_archive pairs) × ArchiveCause stanza repo fault

-- the backup pair is read, and has no value
abbrev pub NoBackup : Pairs → Text → Option Content → StageFault → Type 0
NoBackup pairs stanza repo fault = IsTrue (has_backup pairs) × BackupCause stanza repo fault

-- ---- a call

-- it was refused for this, or this disk failed
abbrev pub DiskCause : Object → (StageFault → Type 0) → DiskState → DiskState → Halt StageFault → Type 0
DiskCause object why old new halt = HaltCause why (Only object (Rises old.faults new.faults)) halt

-- it was refused for this of what the repository holds, or the repository failed
abbrev pub RepoCause : (Option Content → StageFault → Type 0) → DiskState → DiskState → Halt StageFault → Type 0
RepoCause why old new halt = DiskCause Repo (why old.view.now) old new halt

-- ---- all stages

-- the data folder reports a cluster, where the plan looks for it
abbrev pub ShowsCluster : Plan → Option Nodes → Type 0
ShowsCluster plan nodes = IsTrue plan.control → IfSome nodes (λ f. (known : Control) × FolderShows f known)

-- one of the pairs that the plan reads has no value: the archive pair comes first
abbrev pub PairsCause : Plan → Text → Option Content → StageFault → Type 0
PairsCause plan stanza repo fault = NoArchive plan.pairs stanza repo fault
    ⊎ (IsTrue (has_backup plan.pairs) × HasArchive stanza repo × BackupCause stanza repo fault)

-- what is found once the locks are taken: the control file, and then the pairs
abbrev pub FoundCause : Plan → Text → Option Content → Option Nodes → StageFault → Type 0
FoundCause plan stanza repo nodes fault = (IsTrue plan.control × ClusterCause nodes fault)
    ⊎ (ShowsCluster plan nodes × PairsCause plan stanza repo fault)

-- this was found, or the repository or the data folder failed
abbrev pub StopCause : Plan → Text → DiskState → DiskState → DataFolderState → DataFolderState → Halt StageFault → Type
    0
StopCause plan stanza repo new_repo tree new_tree halt =
    HaltCause (FoundCause plan stanza repo.view.now tree.nodes) (rose_in (record none {
      repo = Rises repo.faults new_repo.faults;
      tree = Rises tree.faults new_tree.faults;
    })) halt

-- a lock was held, or this was found
abbrev pub StageCause : Plan → Text → World → World → StageFault → Type 0
StageCause plan stanza before after fault =
    HeldCause plan stanza (Rises before.locks.refusals after.locks.refusals) fault
    ⊎ FoundCause plan stanza before.repo.view.now before.tree.nodes fault
