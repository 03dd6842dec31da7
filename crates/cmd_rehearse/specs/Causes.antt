-- Why a rehearsal is refused: its first two causes speak of what was there before, those of a step of what was there as
-- that step began.
use Rattle.std.specs.Prelude.{◌≡◌, ◌≤◌, ◌*◌, ◌⊎◌, ℕ, Option, None, IfSome, string_bytes}
use Rattle.base_devices.specs.Cause.{Rises}
use Rattle.base_devices.specs.Content.{Content}
use Rattle.base_devices.specs.DataFolder.{Nodes}
use Rattle.base_model.specs.declared.wal.ArchiveId.{ArchiveId}
use Rattle.base_model.specs.InfoFiles.{IsArchiveText, IsBackupText, info_limit}
use Rattle.base_model.specs.Names.{archive_info, backup_info}
use Rattle.base_model.specs.Pair.{PairAbsent, PairIs}
use Rattle.base_model.specs.Repository.{Backup}
use Rattle.base_model.specs.Steps.{Command, Then, Reading}
use Rattle.base_model.specs.declared.labels.BackupKind.TheVariants.{Incr}
use Rattle.base_model.specs.Text.{Text}
use Rattle.base_model.specs.Values.{BackupInfo}
use Rattle.repo_info.specs.ArchiveForm.{IsArchiveForm}
use Rattle.repo_info.specs.BackupForm.{IsBackupForm}
use Rattle.repo_pair.specs.declared.fault.InfoFault.{InfoFault}
use Rattle.repo_pair.specs.Causes.{PairCause}
use Rattle.repo_stanza.specs.Causes.{HistoriesDiffer}
use Rattle.archive_lookup.specs.declared.stored.fault.ArchiveFault.{ArchiveFault}
use Rattle.archive_lookup.specs.Causes.{PushCause as StoringCause}
use Rattle.cmd_types.specs.declared.stages.halt.Halt.TheVariants.{Refused}
use Rattle.cmd_types.specs.declared.stages.object.Object.{Object}
use Rattle.cmd_types.specs.Risen.{none, rose_in}
use Rattle.cmd_stanza_create.specs.Creating.{MakeCause}
use Rattle.cmd_archive_push.specs.declared.fault.PushFault.{PushFault}
use Rattle.cmd_archive_push.specs.Faults.{of_archive}
use Rattle.cmd_backup_common.specs.Causes.{Before}
use Rattle.cmd_backup_offline.specs.declared.fault.OfflineFault.{OfflineFault}
use Rattle.cmd_backup_offline.specs.declared.order.OfflineOrder.{OfflineOrder}
use Rattle.cmd_backup_offline.specs.Basing.{base_label, BaseCause}
use Rattle.cmd_backup_offline.specs.Causes.{OfflineCause}
use Rattle.expire_make.specs.Fault.{IsFinding}
use Rattle.restore_choice.specs.declared.choice.Choice.TheVariants.{Last}
use Rattle.restore_choice.specs.Choosing.{unbounded}
use Rattle.cmd_restore.specs.declared.fault.RestoreCommandFault.{RestoreCommandFault}
use Rattle.cmd_restore.specs.Causes.{RestoreCommandCause}
use Rattle.cmd_restore.specs.Restoring.{Before as BeforeRestore}
use Rattle.cmd_verify.specs.Verifying.{VerifyCommandCause}
use Rattle.base_sample.specs.Having.{IsTaken}
use Rattle.cmd_rehearse.specs.declared.fault.StepFault.{StepFault}
use Rattle.cmd_rehearse.specs.declared.fault.StepFault.TheVariants.{Create, Push, Take, Lost, HistoryDiffers, Recover, Examine}
use Rattle.cmd_rehearse.specs.declared.fault.RehearseFault.{RehearseFault}
use Rattle.cmd_rehearse.specs.declared.fault.RehearseFault.TheVariants.{StanzaExists, NotEmpty, Step}
use Rattle.cmd_rehearse.specs.Advancing.{Had}
use Rattle.cmd_rehearse.specs.Commands.{sample, segment_named, created, pushed, with_first, with_second, with_third, rehearsed, keeps_one}

-- ---- of one step, by what the disk held as it began

-- a pair has no value for what is found of it
abbrev pub IsUnread : (InfoFault → Type 0) → Type 0
IsUnread Is = (fault : InfoFault) × IsFinding fault × Is fault

abbrev pub ArchiveUnread : Text → Option Content → Type 0
ArchiveUnread stanza now = IsUnread (PairCause IsArchiveText IsArchiveForm info_limit (archive_info stanza) now ⊥)

abbrev pub BackupUnread : Text → Option Content → Type 0
BackupUnread stanza now = IsUnread (PairCause IsBackupText IsBackupForm info_limit (backup_info stanza) now ⊥)

-- the list has no backup on which a further one would be based, or its manifest isn't read
abbrev pub LastUnread : Text → Option Content → Type 0
LastUnread stanza now = (v : BackupInfo) × IfSome now (λ f. PairIs IsBackupText f (backup_info stanza) v)
    × ((base_label Incr v ≡ None) ⊎ ((fault : OfflineFault) × BaseCause stanza now (base_label Incr v) fault))

-- one of the pairs has no value, or the manifest of the last backup isn't read
abbrev pub IsLost : Text → Option Content → Type 0
IsLost stanza now = ArchiveUnread stanza now ⊎ (BackupUnread stanza now ⊎ LastUnread stanza now)

-- of a call that only reads what was written
abbrev pub LostCause : Text → Option Content → StepFault → Type 0
LostCause stanza now Lost = IsLost stanza now
LostCause stanza now other = ⊥

-- a segment of the sample isn't stored for this
abbrev pub IsRefusedPush : Text → Option Content → PushFault → Type 0
IsRefusedPush stanza now e = (id : ArchiveId) × (k : ℕ) × (fault : ArchiveFault) × (of_archive fault ≡ Refused e)
    × StoringCause stanza id (segment_named k).name sample.system (segment_named k).bytes now ⊥ fault

-- a backup of the sample is refused for this
pub record IsRefusedBackup (stanza : Text) (now : Option Content) (fault : OfflineFault) : Type 0 where
  pub before : Before
  pub stanza_is : before.stanza ≡ stanza
  pub known_fact_is : before.known ≡ sample
  pub repo_is : before.repo ≡ now
  pub order : OfflineOrder
  pub cause : OfflineCause before order fault

-- the last backup isn't restored for this
pub record IsRefusedRestore (stanza : Text) (now : Option Content) (fault : RestoreCommandFault) : Type 0 where
  pub before : BeforeRestore
  pub stanza_is : before.stanza ≡ stanza
  pub choice_is : before.choice ≡ Last unbounded
  pub repo_is : before.repo ≡ now
  pub cause : RestoreCommandCause before fault

abbrev pub StepCause : Text → Option Content → StepFault → Type 0
StepCause stanza now (Create e) = MakeCause stanza sample now e
StepCause stanza now (Push e) = IsRefusedPush stanza now e
StepCause stanza now (Take e) = IsRefusedBackup stanza now e
StepCause stanza now Lost = IsLost stanza now
StepCause stanza now (HistoryDiffers at) = IfSome now (λ f. HistoriesDiffer stanza f at)
StepCause stanza now (Recover e) = IsRefusedRestore stanza now e
StepCause stanza now (Examine e) = VerifyCommandCause stanza now e

-- ---- of one of them

-- what a rehearsal of this number has done as one of its steps begins
pub data IsPrefix (number : ℕ) : Command → Type 0 where
  Nothing : IsPrefix number Reading
  Pushing : (k : ℕ) → k ≤ 2 * number → IsPrefix number (Then created (pushed k))
  First : (b : Backup) → IsPrefix number (with_first number b)
  Second : (b c : Backup) → IsPrefix number (with_second number b c)
  Third : (b c d : Backup) → IsPrefix number (with_third number b c d)
  Whole : (b c d : Backup) → IsPrefix number (rehearsed number keeps_one b c d)

-- A step of a rehearsal is refused for what the disk held after those before it.
pub record PrefixCause (stanza : Text) (number : ℕ) (old : Option Content) (fault : StepFault) : Type 0 where
  pub prefix : Command
  pub is : IsPrefix number prefix
  pub had : Had stanza prefix old (λ now. StepCause stanza now fault)

-- one of the first n pushes is
abbrev pub PushesCause : Text → ℕ → Option Content → StepFault → Type 0
PushesCause stanza count old fault = (k : ℕ) × (k ≤ count)
    × Had stanza (pushed k) old (λ now. StepCause stanza now fault)

-- a command is, or what is read after it
abbrev pub PartCause : Text → Command → Option Content → StepFault → Type 0
PartCause stanza command old fault = StepCause stanza old fault
    ⊎ Had stanza command old (λ now. StepCause stanza now fault)

-- ---- of the whole

-- the refusal reports that this stanza exists
abbrev pub IsExisting : Text → RehearseFault → Type 0
IsExisting stanza (StanzaExists text) = string_bytes text ≡ stanza
IsExisting stanza other = ⊥

-- a member of the stanza's archive pair is there
abbrev pub ExistsCause : Text → Option Content → RehearseFault → Type 0
ExistsCause stanza old fault = IsExisting stanza fault × IfSome old (λ f. ¬ PairAbsent f (archive_info stanza))

abbrev pub RehearseCause : Text → ℕ → Option Content → Option Nodes → RehearseFault → Type 0
RehearseCause stanza number old nodes (StanzaExists text) = ExistsCause stanza old (StanzaExists text)
RehearseCause stanza number old nodes (NotEmpty path) = IfSome nodes (IsTaken (string_bytes path))
RehearseCause stanza number old nodes (Step fault) = PrefixCause stanza number old fault

-- ---- which object failed

-- the repository or the data folder
abbrev pub FailsBoth : (repo new_repo tree new_tree : ℕ) → Object → Type 0
FailsBoth repo new_repo tree new_tree = rose_in (record none { repo = Rises repo new_repo; tree = Rises tree new_tree })

-- the repository, the data folder or the clock, whose counts of faults went so
abbrev pub Fails : (repo new_repo tree new_tree clock new_clock : ℕ) → Object → Type 0
Fails repo new_repo tree new_tree clock new_clock =
    rose_in (record none { repo = Rises repo new_repo; tree = Rises tree new_tree; clock = Rises clock new_clock })
