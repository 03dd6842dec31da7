-- Why a stanza isn't made.
use Rattle.std.specs.Prelude.{◌≡◌, ◌≢◌, List, ◌∷◌, ℕ, Option, IfSome, string_bytes}
use Rattle.base_devices.specs.Content.{Content}
use Rattle.base_devices.specs.States.{DiskState, DiskFailed}
use Rattle.base_model.specs.declared.labels.Label.{Label}
use Rattle.base_model.specs.declared.clusters.ClusterId.{ClusterId}
use Rattle.base_model.specs.Text.{Text}
use Rattle.base_model.specs.Names.{archive_info, backup_info}
use Rattle.base_model.specs.Values.{ArchiveInfo, BackupInfo, Entry}
use Rattle.base_model.specs.InfoFiles.{IsArchiveText, IsBackupText, info_limit}
use Rattle.base_model.specs.Pair.{PairIs, PairAbsent}
use Rattle.repo_info.specs.declared.fault.MemberFault.{MemberFault}
use Rattle.repo_info.specs.declared.fault.MemberFault.TheVariants.{Absent}
use Rattle.repo_pair.specs.Causes.{AreDamaged}
use Rattle.base_model.specs.InfoText.{Section}
use Rattle.repo_info.specs.ArchiveForm.{IsArchiveForm}
use Rattle.repo_info.specs.BackupForm.{IsBackupForm}
use Rattle.repo_stanza.specs.declared.control.Control.{Control}
use Rattle.repo_stanza.specs.declared.creation.Created.{Created}
use Rattle.repo_stanza.specs.declared.creation.Created.TheVariants.{New, Same}
use Rattle.repo_stanza.specs.declared.fault.Identity.{Identity}
use Rattle.repo_stanza.specs.declared.fault.StanzaFault.{StanzaFault}
use Rattle.repo_stanza.specs.declared.fault.StanzaFault.TheVariants.{InfoDamaged, HistoryDiffers, StanzaMismatch, ArchiveLost, FilesFound, Disk, NoMemory}
use Rattle.repo_stanza.specs.Pairs.{identity_known, identity_kept, identities, DifferFirst, HasPending, AreTogether, IsCurrent, HavePairs}
use Rattle.repo_stanza.specs.Unused.{IsFirst, HasFiles}

-- The pair of this main member is damaged: the archive pair is looked at first.
pub data HasDamage (stanza : Text) (f : Content) (name : Text) (main copy : MemberFault) : Type 0 where
  -- the members of the archive pair have these faults
  OfArchive : name ≡ archive_info stanza
      → AreDamaged IsArchiveText IsArchiveForm info_limit f (archive_info stanza) main copy
      → HasDamage stanza f name main copy
  -- those of the backup pair have, besides an archive pair that is missing
  OfBackup : name ≡ backup_info stanza → PairAbsent f (archive_info stanza)
      → AreDamaged IsBackupText IsBackupForm info_limit f (backup_info stanza) main copy
      → HasDamage stanza f name main copy
  -- those of the backup pair have, besides an archive pair that has a value
  OfBackupBeside : name ≡ backup_info stanza → (a : ArchiveInfo) → PairIs IsArchiveText f (archive_info stanza) a
      → AreDamaged IsBackupText IsBackupForm info_limit f (backup_info stanza) main copy
      → HasDamage stanza f name main copy
  -- the backup pair is missing besides an archive pair that has a value
  OfNoBackup : name ≡ backup_info stanza → (a : ArchiveInfo) → PairIs IsArchiveText f (archive_info stanza) a
      → PairAbsent f (backup_info stanza) → main ≡ Absent → copy ≡ Absent → HasDamage stanza f name main copy

-- The histories of the two pairs differ first at this number, and not by a cluster that is still to come.
pub record HistoriesDiffer (stanza : Text) (f : Content) (at : ℕ) : Type 0 where
  pub archive : ArchiveInfo
  pub backup : BackupInfo
  pub pairs : HavePairs stanza f archive backup
  pub differ : DifferFirst at archive.history (identities backup)
  pub settled : ¬ HasPending archive backup

-- the pairs fit together, and their current cluster is another than the one that is given
pub record HasOther (stanza : Text) (known : Control) (f : Content) (kept found : Identity) : Type 0 where
  pub archive : ArchiveInfo
  pub backup : BackupInfo
  pub pairs : HavePairs stanza f archive backup
  pub together : AreTogether archive backup
  pub current : ClusterId
  pub is_current : IsCurrent archive current
  pub is_kept : kept ≡ identity_kept current
  pub is_found : found ≡ identity_known known
  pub apart : kept ≢ found

-- the archive pair is missing, and the backup pair lists this backup as its first
pub record HasLost (stanza : Text) (f : Content) (label : Label) : Type 0 where
  pub archive : PairAbsent f (archive_info stanza)
  pub backup : BackupInfo
  pub reads : PairIs IsBackupText f (backup_info stanza) backup
  pub first : Entry
  pub others : List Entry
  pub listed : backup.backups ≡ first ∷ others
  pub is : label ≡ first.label

-- why a pair isn't read
module _ {V : Type 0} (IsTextOf : V → Text → Type 0) (IsForm : List Section → Text → Text → Type 0) (limit : ℕ) where
  abbrev pub ReadCause : Text → Option Content → Type 0 → StanzaFault → Type 0
  ReadCause name now rose (InfoDamaged word main copy) = (string_bytes word ≡ name)
      × IfSome now (λ f. AreDamaged IsTextOf IsForm limit f name main copy)
  ReadCause name now rose Disk = rose
  ReadCause name now rose NoMemory = Unit {0}
  ReadCause name now rose other = ⊥

  -- the same from one state of the disk to another
  abbrev pub ReadFails : Text → DiskState → DiskState → StanzaFault → Type 0
  ReadFails name old new e = ReadCause name old.view.now (DiskFailed old new) e

-- why a repository isn't free of these names
abbrev pub FoundCause : (Text → Type 0) → Option Content → Type 0 → StanzaFault → Type 0
FoundCause These now rose (FilesFound name) = IfSome now (λ f. IsFirst These f (string_bytes name))
FoundCause These now rose Disk = rose
FoundCause These now rose NoMemory = Unit {0}
FoundCause These now rose other = ⊥

abbrev pub FoundFails : (Text → Type 0) → DiskState → DiskState → StanzaFault → Type 0
FoundFails These old new e = FoundCause These old.view.now (DiskFailed old new) e

-- why a repository without a stanza isn't unused
abbrev pub UnusedCause : Text → Option Content → Type 0 → StanzaFault → Type 0
UnusedCause stanza now rose (FilesFound name) = IfSome now (λ f. HasFiles stanza f (string_bytes name))
UnusedCause stanza now rose Disk = rose
UnusedCause stanza now rose NoMemory = Unit {0}
UnusedCause stanza now rose other = ⊥

abbrev pub UnusedFails : Text → DiskState → DiskState → StanzaFault → Type 0
UnusedFails stanza old new e = UnusedCause stanza old.view.now (DiskFailed old new) e

-- Why create gives this fault, from what the disk held as it began, and whether the disk's count of faults rose.
abbrev pub CreateCause : Text → Control → Option Content → Type 0 → StanzaFault → Type 0
CreateCause stanza known now rose (InfoDamaged name main copy) =
    IfSome now (λ f. HasDamage stanza f (string_bytes name) main copy)
CreateCause stanza known now rose (HistoryDiffers at) = IfSome now (λ f. HistoriesDiffer stanza f at)
CreateCause stanza known now rose (StanzaMismatch kept found) = IfSome now (λ f. HasOther stanza known f kept found)
CreateCause stanza known now rose (ArchiveLost label) = IfSome now (λ f. HasLost stanza f label)
CreateCause stanza known now rose (FilesFound name) = IfSome now (λ f. HasFiles stanza f (string_bytes name))
CreateCause stanza known now rose Disk = rose
CreateCause stanza known now rose NoMemory = Unit {0}

abbrev pub CreateFails : Text → Control → DiskState → DiskState → StanzaFault → Type 0
CreateFails stanza known old new e = CreateCause stanza known old.view.now (DiskFailed old new) e

-- what holds where the stanza is refused for what the disk holds
abbrev pub OnContent : StanzaFault → Type 0 → Type 0
OnContent Disk P = Unit {0}
OnContent NoMemory P = Unit {0}
OnContent refusal P = P

-- this holds of the label that is given where the archive pair is missing
abbrev pub IfLost : StanzaFault → (Label → Type 0) → Type 0
IfLost (ArchiveLost label) P = P label
IfLost other P = Unit {0}

-- what holds where the stanza was made
abbrev pub IfNew : Created → Type 0 → Type 0
IfNew New P = P
IfNew Same P = Unit {0}

-- what holds where it was there
abbrev pub IfSame : Created → Type 0 → Type 0
IfSame New P = Unit {0}
IfSame Same P = P
