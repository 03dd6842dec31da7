-- What is known of a stanza's info pairs.
use Rattle.std.specs.Prelude.{◌≡◌, ◌⊎◌, Option, Some, IfSome, string_bytes}
use Rattle.base_devices.specs.Content.{Content, at}
use Rattle.base_model.specs.declared.clusters.ClusterId.{ClusterId}
use Rattle.base_model.specs.declared.wal.ArchiveId.{ArchiveId}
use Rattle.base_model.specs.Text.{Text}
use Rattle.base_model.specs.Fields.{at_number}
use Rattle.base_model.specs.Names.{archive_info, backup_info}
use Rattle.base_model.specs.Pair.{PairIs, PairAbsent}
use Rattle.base_model.specs.Values.{ArchiveInfo}
use Rattle.base_model.specs.InfoFiles.{IsArchiveText, IsBackupText, info_limit}
use Rattle.repo_info.specs.declared.fault.MemberFault.{MemberFault}
use Rattle.repo_info.specs.declared.fault.MemberFault.TheVariants.{Absent}
use Rattle.repo_info.specs.BackupForm.{IsBackupForm}
use Rattle.cmd_types.specs.declared.stages.fault.StageFault.{StageFault}
use Rattle.cmd_types.specs.declared.stages.fault.StageFault.TheVariants.{StanzaMissing, InfoDamaged}
use Rattle.repo_pair.specs.Causes.{AreDamaged}
use Rattle.repo_info.specs.ArchiveForm.{IsArchiveForm}
use Rattle.base_model.specs.Represents.{IsArchiveFile}
use Rattle.repo_stanza.specs.Pairs.{AgreeAt}

-- the archive pair's current cluster
abbrev pub HasCurrent : Text → Content → ClusterId → Type 0
HasCurrent stanza f c = (v : ArchiveInfo) × PairIs IsArchiveText f (archive_info stanza) v
    × (at_number v.current v.history ≡ Some c)

abbrev pub id_kept : ClusterId → ArchiveId
id_kept c = record { version = c.version; number = c.id }

-- both members of the archive pair are there and have the same text
abbrev pub AgreesAtPair : Text → Content → Type 0
AgreesAtPair stanza f = AgreeAt (archive_info stanza) f

-- the archive's files are unchanged
abbrev pub SameFiles : Text → Option Content → Option Content → Type 0
SameFiles stanza old new = (name : Text) → IsArchiveFile stanza name → at name new ≡ at name old

-- the pair has this value
abbrev pub HasValue : Text → Content → ArchiveInfo → Type 0
HasValue stanza f v = PairIs IsArchiveText f (archive_info stanza) v

-- the archive pair has a value
abbrev pub HasArchive : Text → Option Content → Type 0
HasArchive stanza now = (v : ArchiveInfo) × IfSome now (λ f. HasValue stanza f v)

-- why the archive pair has no value
abbrev pub ArchiveCause : Text → Option Content → StageFault → Type 0
ArchiveCause stanza now (StanzaMissing word) = (string_bytes word ≡ stanza)
    × IfSome now (λ f. PairAbsent f (archive_info stanza))
ArchiveCause stanza now (InfoDamaged name main copy) = (string_bytes name ≡ archive_info stanza)
    × IfSome now (λ f. AreDamaged IsArchiveText IsArchiveForm info_limit f (archive_info stanza) main copy)
ArchiveCause stanza now other = ⊥

-- the members of the backup pair have these faults; where neither is there, both are absent
abbrev pub LacksBackup : Text → Content → MemberFault → MemberFault → Type 0
LacksBackup stanza f main copy = AreDamaged IsBackupText IsBackupForm info_limit f (backup_info stanza) main copy
    ⊎ (PairAbsent f (backup_info stanza) × (main ≡ Absent) × (copy ≡ Absent))

-- why the backup pair has no value
abbrev pub BackupCause : Text → Option Content → StageFault → Type 0
BackupCause stanza now (InfoDamaged name main copy) = (string_bytes name ≡ backup_info stanza)
    × IfSome now (λ f. LacksBackup stanza f main copy)
BackupCause stanza now other = ⊥
